-- The code of a placed function for arm.
use Rattle.std.specs.Prelude.{ℕ, pos, List, [], ◌∷◌, map}
use Rattle.bk_func.specs.Records.{FuncRecord, PlacedRecord}
use Rattle.bk_piece.specs.declared.Handle.{Handle}
use Rattle.bk_piece.specs.Pieces.{PieceRecord}
use Rattle.bk_emit.specs.Forms.{Forms}
use Rattle.bk_emit.specs.Code as shared
use Rattle.bk_arm_emit.specs.Blocks as blocks
use Rattle.bk_arm_emit.specs.Insts.{trap}
use Rattle.bk_arm_emit.specs.Lines.{inst}
use Rattle.bk_arm_emit.specs.Units.{unit}
use Rattle.bk_arm_emit.specs.Words.{load_at, store_at}
use Rattle.bk_arm_emit.specs.Written.{AreSingle, jump_words, branch_words}

-- what the code of arm is made of
abbrev pub arm : Forms
arm = record {
  word = 4;
  scratch = 11;
  entry = λ f. map inst (blocks.entry f);
  leave = λ f. map inst (blocks.leave f);
  load = λ d n. map inst (load_at d n);
  store = λ a n. map inst (store_at a n);
  copy = λ d a. map inst (blocks.copy_to d a);
  unit = λ e r f. unit e.0.op r e.0.int e.1 f;
  test = λ control. map inst (blocks.bit_test control);
  exit = inst (trap (pos 6)) ∷ [];
  sized = AreSingle;
  jump = λ size d. jump_words d;
  branch = λ bit size d. branch_words bit d;
}

-- the piece of a placed function in a frame of so many bytes, with the handles of its keys
abbrev pub IsPiece : FuncRecord → PlacedRecord → ℕ → List Handle → PieceRecord → Type 0
IsPiece f p bytes keys piece = shared.IsPiece arm f p bytes keys piece
