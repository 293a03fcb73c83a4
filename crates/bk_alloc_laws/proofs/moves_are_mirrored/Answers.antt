use Rattle.bk_alloc_laws.proofs.Mirror.{moves_mirror}
use Rattle.bk_alloc_laws.proofs.moves_are_mirrored.Goals as goal

pub returns : goal.returns
returns c = moves_mirror
