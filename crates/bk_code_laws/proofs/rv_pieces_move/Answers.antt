use Rattle.bk_rv_emit.specs.Code.{riscv64}
use Rattle.bk_code_laws.proofs.Moved.{piece_moves}
use Rattle.bk_code_laws.proofs.Rv.{riscv64_is_blind}
use Rattle.bk_code_laws.proofs.rv_pieces_move.Goals as goal

pub returns : goal.returns
returns c = λ w x f p bytes hs js piece. piece_moves riscv64 riscv64_is_blind f p bytes w x hs js piece
