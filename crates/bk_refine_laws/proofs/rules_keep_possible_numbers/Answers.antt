use Rattle.std.proofs.Common.{refl}
use Rattle.bk_rewrite.proofs.Standings.{named}
use Rattle.bk_refine_laws.specs.Applied.{IsThere}
use Rattle.bk_refine_laws.proofs.StrictKept.{strict_kept}
use Rattle.bk_refine_laws.proofs.rules_keep_possible_numbers.Goals as goal

pub returns : goal.returns
returns c p r f g b k v bs cs a simple sound pure states rank ranked width strict after e m possible =
    strict_kept p r f g b k v bs cs a simple sound pure states (IsThere f) rank ranked (v, named f v.id b k v a.numbers a.stands refl) width strict after e m possible
