use Rattle.bk_arm_emit.specs.Code.{arm}
use Rattle.bk_code_laws.proofs.Arm.{arm_is_blind}
use Rattle.bk_code_laws.proofs.Moved.{piece_moves}
use Rattle.bk_code_laws.proofs.arm_pieces_move.Goals as goal

pub returns : goal.returns
returns c = λ w x f p bytes hs js piece. piece_moves arm arm_is_blind f p bytes w x hs js piece
