-- The size of the text.
use Rattle.std.proofs.Common.{◌≡◌, ◌∙◌, refl, ℕ, ◌+◌, ◌*◌, ◌<◌, ◌≤◌, List, [], ◌∷◌, length, take, drop, sum_by, arith, length-append, length-drop, length-set}
use Rattle.std.specs.List.{All}
use Rattle.std.proofs.lemmas.List.{length-take}
use Rattle.std.proofs.lemmas.List.Elements.{All-head, All-tail}
use Rattle.std.proofs.lemmas.List.Sums.{sum_by-cons}
use Rattle.bk_ops.specs.declared.types.Target.{Target}
use Rattle.bk_ops.specs.declared.types.Target.TheVariants.{Arm, Riscv64}
use Rattle.bk_piece.specs.declared.Patch.{Patch}
use Rattle.bk_piece.specs.declared.Patch.TheVariants.{Call, Addr, Pool}
use Rattle.bk_piece.specs.Pieces.{PieceOf}
use Rattle.bk_fixup.specs.Patches.{patched}
use Rattle.bk_link.specs.Texts.{patched_at, patched_code, text_of}

patched_size : (t : Target) (p : Patch) (words : List ℕ) (target place : ℕ) → length (patched t p words target place) ≡ length words
patched_size Riscv64 p words target place = grind (arith, length-set)
patched_size Arm Call words target place = grind (arith, length-set)
patched_size Arm Addr words target place = grind (arith, length-set)
patched_size Arm Pool words target place = refl

at_size : {H : Type 0} (t : Target) (find : H → ℕ) (address : ℕ) (code : List ℕ) (h : ℕ × Patch × H) → h.0 ≤ length code → length (patched_at t find address code h) ≡ length code
at_size t find address code h l =
    omega (arith, l, length-append (take h.0 code) (patched t h.1 (drop h.0 code) (find h.2) (address + 4 * h.0)), patched_size t h.1 (drop h.0 code) (find h.2) (address + 4 * h.0), length-take h.0 code, length-drop h.0 code)

-- a patch begins in code of so many words, or at its end
abbrev pub Begins : {H : Type 0} → ℕ → ℕ × Patch × H → Type 0
Begins size h = h.0 ≤ size

-- code with a word whose patches begin in it
pub record IsWhole {H : Type 0} (p : PieceOf H) : Type 0 where
  pub some : 0 < length p.code
  pub begun : All (Begins (length p.code)) p.handles

code_size : {H : Type 0} (t : Target) (find : H → ℕ) (address size : ℕ) (code : List ℕ) (hs : List (ℕ × Patch × H)) → length code ≡ size → All (Begins size) hs
    → length (patched_code t find address code hs) ≡ size
unfolding patched_code
code_size t find address size code [] e h = e
code_size t find address size code (x ∷ hs) e h =
    let begun : x.0 ≤ size = All-head (Begins size) x hs h in
    code_size t find address size (patched_at t find address code x) hs (at_size t find address code x (omega (arith, begun, e)) ∙ e) (All-tail (Begins size) x hs h)

-- the text has the words of its pieces
pub text_size : {H : Type 0} (t : Target) (find : H → ℕ) (address : ℕ) (ps : List (PieceOf H)) → All IsWhole ps → length (text_of t find address ps) ≡ sum_by (λ p. length p.code) ps
unfolding text_of
text_size t find address [] h = refl
text_size {H} t find address (p ∷ ps) h =
    let own = code_size t find address (length p.code) p.code p.handles refl (All-head IsWhole p ps h).begun in
    let rest = text_size t find (address + 4 * length p.code) ps (All-tail IsWhole p ps h) in
    omega (arith, own, rest, length-append (patched_code t find address p.code p.handles) (text_of t find (address + 4 * length p.code) ps), sum_by-cons (λ (p : PieceOf H). length p.code) p ps)
