-- The code of a placed function for riscv64.
use Rattle.std.specs.Prelude.{ℕ, pos, List, map}
use Rattle.bk_func.specs.Records.{FuncRecord, PlacedRecord}
use Rattle.bk_piece.specs.declared.Handle.{Handle}
use Rattle.bk_piece.specs.Pieces.{PieceRecord}
use Rattle.bk_fixup.specs.Sizes.{AreLeastSizes}
use Rattle.bk_emit.specs.Forms.{Forms}
use Rattle.bk_emit.specs.Code as shared
use Rattle.bk_rv_emit.specs.Blocks as blocks
use Rattle.bk_rv_emit.specs.Lines.{inst, word_of}
use Rattle.bk_rv_emit.specs.Units.{unit, trap}
use Rattle.bk_rv_emit.specs.Words.{load_at, store_at}
use Rattle.bk_rv_emit.specs.Written.{jump_form, branch_form}

-- what the code of riscv64 is made of
abbrev pub riscv64 : Forms
riscv64 = record {
  word = 8;
  scratch = 31;
  entry = λ f. map inst (blocks.entry f);
  leave = λ f. map inst (blocks.leave f);
  load = λ d n. map inst (load_at d n);
  store = λ a n. map inst (store_at a n);
  copy = λ d a. map inst (blocks.copy d a);
  unit = λ e r f. unit e.0.op r e.0.int e.1 f;
  test = λ control. map inst (blocks.test control);
  exit = trap (pos 6);
  sized = AreLeastSizes;
  jump = λ size d. map word_of (jump_form size d);
  branch = λ bit size d. map word_of (branch_form bit size d);
}

-- the piece of a placed function in a frame of so many bytes, with the handles of its keys
abbrev pub IsPiece : FuncRecord → PlacedRecord → ℕ → List Handle → PieceRecord → Type 0
IsPiece f p bytes keys piece = shared.IsPiece riscv64 f p bytes keys piece
