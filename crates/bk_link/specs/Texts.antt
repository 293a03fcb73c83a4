-- The code of pieces once each key has its address.
use Rattle.std.specs.Prelude.{ℕ, ◌+◌, ◌*◌, List, [], ◌∷◌, ◌++◌, length, take, drop}
use Rattle.bk_ops.specs.declared.types.Target.{Target}
use Rattle.bk_piece.specs.declared.Patch.{Patch}
use Rattle.bk_piece.specs.Pieces.{PieceOf}
use Rattle.bk_fixup.specs.Patches.{patched}

-- code at an address whose words from a place on are patched
abbrev pub patched_at : {H : Type 0} → Target → (H → ℕ) → ℕ → List ℕ → ℕ × Patch × H → List ℕ
patched_at t find address code h = take h.0 code ++ patched t h.1 (drop h.0 code) (find h.2) (address + 4 * h.0)

-- the same for each patch in order
unfoldable pub patched_code : {H : Type 0} → Target → (H → ℕ) → ℕ → List ℕ → List (ℕ × Patch × H) → List ℕ
patched_code t find address code [] = code
patched_code t find address code (h ∷ hs) = patched_code t find address (patched_at t find address code h) hs

-- the code of pieces one behind the other, the first at an address
unfoldable pub text_of : {H : Type 0} → Target → (H → ℕ) → ℕ → List (PieceOf H) → List ℕ
text_of t find address [] = []
text_of t find address (p ∷ ps) = patched_code t find address p.code p.handles ++ text_of t find (address + 4 * length p.code) ps
