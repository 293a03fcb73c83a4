use Rattle.std.proofs.Common.{refl}
use Rattle.bk_rewrite.proofs.Standings.{named}
use Rattle.bk_refine_laws.specs.Applied.{IsThere}
use Rattle.bk_refine_laws.proofs.NumbersKept.{numbers_kept}
use Rattle.bk_refine_laws.proofs.rules_keep_numbers.Goals as goal

pub returns : goal.returns
returns c p r f g b k v bs cs a s sound states rank ranked e m n solves known exact =
    numbers_kept p r f g b k v bs cs a s sound states (IsThere f) rank (record { ranked = ranked; there = λ x h. h }) (v, named f v.id b k v a.numbers a.stands refl) e m n solves known exact
