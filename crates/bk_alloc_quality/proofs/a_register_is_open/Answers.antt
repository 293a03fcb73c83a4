use Rattle.bk_alloc_quality.proofs.Room.{room}
use Rattle.bk_alloc_quality.proofs.a_register_is_open.Goals as goal

pub returns : goal.returns
returns c = room
