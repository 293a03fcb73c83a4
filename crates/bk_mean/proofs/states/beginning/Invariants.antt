use Rattle.std.proofs.Common.{◌≡◌, drop}
use Rattle.std.specs.Prelude.{find, not}
use Rattle.std.specs.List.{filter_map}
use Rattle.bk_mean.specs.Memories.{acting_place, is_given, beginning_of}
use Rattle.bk_mean.proofs.states.beginning.Given as goal

abbrev pub invariant-loop-value : goal.invariant-loop-value
invariant-loop-value l = find (λ s. not (is_given l.first l.values s)) (filter_map (acting_place l.numbering) (drop l.value-index l.values)) ≡ beginning_of l.numbering l.first l.values
