use Rattle.std.proofs.Common.{refl}
use Rattle.std.specs.List.{IsDistinct}
use Rattle.bk_shuffle.proofs.tests.a_free_destination_goes_first.Goals as goal

pub sequence-pairs-requires-clause-apart : goal.sequence-pairs-requires-clause-apart
unfolding IsDistinct
sequence-pairs-requires-clause-apart g c = ((refl, tt), (tt, tt))
