use Rattle.std.proofs.Common.{refl}
use Rattle.bk_rewrite.proofs.Standings.{named}
use Rattle.bk_refine_laws.specs.Applied.{IsThere}
use Rattle.bk_refine_laws.proofs.PossibleKept.{possible_kept}
use Rattle.bk_refine_laws.proofs.word_rules_keep_possible_numbers.Goals as goal

pub returns : goal.returns
returns c p r f g b k v bs cs a nophi builds sound pure well states rank falls e m possible =
    possible_kept p r f g b k v bs cs a nophi builds sound pure well states (IsThere f) rank falls (v, named f v.id b k v a.numbers a.stands refl) e m possible
