-- A piece whose handles are replaced by the words of their cells.
use Rattle.std.specs.Prelude.{ℕ, List, [], map, slice_index_or}
use Rattle.bk_piece.specs.declared.Handle.{Handle}
use Rattle.bk_piece.specs.declared.Key.{Key}
use Rattle.bk_piece.specs.declared.Patch.{Patch}
use Rattle.bk_piece.specs.Pieces.{PieceOf, PieceRecord}

abbrev pub key_in : ℕ → ℕ → Key
key_in a k = record { area = a; key = k }

-- the words of an area's cells
abbrev pub area : List (List ℕ) → ℕ → List ℕ
area areas a = slice_index_or areas a []

-- the word of a handle's cell, 0 where there is no such cell
abbrev pub word_of : List (List ℕ) → Handle → ℕ
word_of areas h = slice_index_or (area areas h.area) h.cell 0

-- the key of a handle: the word of its cell, in its area
abbrev pub key_at : List (List ℕ) → Handle → Key
key_at areas h = key_in h.area (word_of areas h)

-- what is patched, with f of its key
abbrev pub site_with : {H K : Type 0} → (H → K) → ℕ × Patch × H → ℕ × Patch × K
site_with f s = (s.0, s.1, f s.2)

-- the piece with f of each key
abbrev pub piece_with : {H K : Type 0} → (H → K) → PieceOf H → PieceOf K
piece_with f p = record { code = p.code; handles = map (site_with f) p.handles; types = map f p.types; frame = p.frame }

-- a piece as it is once all cells are known: keys stand where handles stood
abbrev pub filled : List (List ℕ) → PieceRecord → PieceOf Key
filled areas p = piece_with (key_at areas) p
