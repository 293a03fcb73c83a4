-- What contracts see of a piece.
use Rattle.std.specs.Prelude.{ℕ, List}
use Rattle.bk_piece.specs.declared.Handle.{Handle}
use Rattle.bk_piece.specs.declared.Patch.{Patch}

-- a piece of code in which an H stands for each key: its words, what is patched and for which key, the types of its signature,
-- and the bytes of its frame
pub record PieceOf (H : Type 0) : Type 0 where
  pub code : List ℕ
  pub handles : List (ℕ × Patch × H)
  pub types : List H
  pub frame : ℕ

abbrev pub PieceRecord : Type 0
PieceRecord = PieceOf Handle
