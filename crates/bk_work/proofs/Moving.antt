-- Code moves to another table that holds the same keys.
use Rattle.std.proofs.Common.{◌≡◌, ◌≢◌, ⊎_elim, ℕ, ◌+◌, ◌*◌, List, [], ◌∷◌, length, map, get_or, refl, sym, ap, ◌∙◌, subst, arith}
use Rattle.std.specs.Prelude.{sum_by}
use Rattle.std.specs.List.{Contains}
use Rattle.std.proofs.Math.ListN.{get_or-eq_default, get_or-map}
use Rattle.std.proofs.lemmas.Bool.{cases_eq}
use Rattle.std.proofs.lemmas.List.{get_or_default}
use Rattle.std.proofs.lemmas.List.Sums.{sum_by-cons}
use mathlib.Core.Logic.{dite}
use native.Mathlib.Decide.{dec_lt}
use Rattle.bk_arm_emit.specs.Code.{arm}
use Rattle.bk_rv_emit.specs.Code.{riscv64}
use Rattle.bk_code_laws.proofs.Arm.{arm_is_blind}
use Rattle.bk_code_laws.proofs.Moved.{piece_moves}
use Rattle.bk_code_laws.proofs.Rv.{riscv64_is_blind}
use Rattle.bk_func.specs.Records.{FuncRecord, PackageRecord, PlacedRecord}
use Rattle.bk_link.specs.Linked.{code_size, gathered, object_of}
use Rattle.bk_ops.specs.declared.types.Target.{Target}
use Rattle.bk_ops.specs.declared.types.Target.TheVariants.{Arm, Riscv64}
use Rattle.bk_piece.specs.declared.Handle.{Handle}
use Rattle.bk_piece.specs.declared.Key.{Key}
use Rattle.bk_piece.specs.Filled.{area, filled, key_at, key_in, word_of}
use Rattle.bk_piece.specs.Pieces.{PieceOf, PieceRecord}
use Rattle.bk_piece.specs.Rising.{keys_in, rising}
use Rattle.bk_piece.proofs.Full.{from_keys, in_keys}
use Rattle.bk_work.specs.Each.{Each, none, more}
use Rattle.bk_work.specs.Framed.{FramedRecord}
use Rattle.bk_work.specs.Package.{ArePieces, IsCode, IsPiece}
use Rattle.bk_work.specs.Rules.{RulesRecord}

-- tables with the same keys have the same keys in each area
pub same_area : (w x : List (List ℕ)) (a : ℕ) → map keys_in w ≡ map keys_in x → keys_in (area w a) ≡ keys_in (area x a)
unfolding rising
same_area w x a e = sym (get_or-map keys_in w a []) ∙ (ap (λ (ks : List (List ℕ)). get_or ks a []) e ∙ get_or-map keys_in x a [])

-- a word other than 0 is that of a cell
pub has_word : (ws : List ℕ) (c q : ℕ) → q ≢ 0 → get_or ws c 0 ≡ q → Contains ws q
has_word ws c q ne is = dite (dec_lt c (length ws))
    (λ lt. (c, lt, get_or_default ws c q 0 lt ∙ is))
    (λ ge. absurd (ne (sym is ∙ get_or-eq_default ws 0 (omega arith))))

-- a handle into the other table for the same key
moved_handle : (w x : List (List ℕ)) → map keys_in w ≡ map keys_in x → (h : Handle) → (j : Handle) × (key_at w h ≡ key_at x j)
moved_handle w x e h = ⊎_elim
    (λ (none_there : word_of w h ≡ 0).
    (past, ap (key_in h.area) (none_there ∙ sym (get_or-eq_default (area x h.area) 0 (omega arith)))))
    (λ (some : word_of w h ≡ 0 → ⊥).
    let there : Contains (area w h.area) (word_of w h) = has_word (area w h.area) h.cell (word_of w h) some refl in
    let keys : Contains (keys_in (area x h.area)) (word_of w h) =
    subst (λ (ks : List ℕ). Contains ks (word_of w h)) (same_area w x h.area e) (in_keys (area w h.area) (word_of w h) some there) in
    let here : Contains (area x h.area) (word_of w h) = (from_keys (area x h.area) (word_of w h) keys).1 in
    let word : get_or (area x h.area) here.0 0 ≡ word_of w h = get_or_default (area x h.area) here.0 0 (word_of w h) here.1 ∙ here.2 in
    (at here.0, ap (key_in h.area) (sym word)))
    (cases_eq (word_of w h) 0)
  where
    at : ℕ → Handle
    at c = record { area = h.area; cell = c }

    past : Handle
    past = record { area = h.area; cell = length (area x h.area) }

moved_handles : (w x : List (List ℕ)) → map keys_in w ≡ map keys_in x → (hs : List Handle) → (js : List Handle) × (map (key_at w) hs ≡ map (key_at x) js)
moved_handles w x e [] = ([], refl)
moved_handles w x e (h ∷ hs) =
    let j = moved_handle w x e h in
    let js = moved_handles w x e hs in
    (j.0 ∷ js.0, ap (λ (k : Key). k ∷ map (key_at w) hs) j.1 ∙ ap (λ (ks : List Key). key_at x j.0 ∷ ks) js.1)

-- a piece with handles into the other table
moved_piece : (t : Target) (w x : List (List ℕ)) (f : FuncRecord) (p : PlacedRecord) (bytes : ℕ) (hs js : List Handle) (piece : PieceRecord) → map (key_at w) hs ≡ map (key_at x) js → IsPiece t f p bytes hs piece
    → (other : PieceRecord) × IsPiece t f p bytes js other × (filled w piece ≡ filled x other)
moved_piece Arm w x f p bytes hs js piece same is = piece_moves arm arm_is_blind f p bytes w x hs js piece same is
moved_piece Riscv64 w x f p bytes hs js piece same is = piece_moves riscv64 riscv64_is_blind f p bytes w x hs js piece same is

moved_code : (t : Target) (w x : List (List ℕ)) → map keys_in w ≡ map keys_in x → (it : FramedRecord) (piece : PieceRecord) → IsCode t w it piece
    → (other : PieceRecord) × IsCode t x it other × (filled w piece ≡ filled x other)
moved_code t w x e it piece code =
    let js = moved_handles w x e code.handles in
    let m = moved_piece t w x it.func it.placed it.frame code.handles js.0 piece js.1 code.code in
    (m.0, record { handles = js.0; keys = sym js.1 ∙ code.keys; code = m.1 }, m.2)

-- the pieces of functions with handles into the other table
pub record AreMoved (t : Target) (w x : List (List ℕ)) (its : List FramedRecord) (ps : List PieceRecord) : Type 0 where
  pub others : List PieceRecord
  pub code : Each (IsCode t x) its others
  pub same : map (filled w) ps ≡ map (filled x) others

pub moved_codes : (t : Target) (w x : List (List ℕ)) (its : List FramedRecord) (ps : List PieceRecord) → map keys_in w ≡ map keys_in x → Each (IsCode t w) its ps → AreMoved t w x its ps
moved_codes t w x _ _ e none = record { others = []; code = none; same = refl }
moved_codes t w x _ _ e (more it p its ps code rest) =
    let one = moved_code t w x e it p code in
    let all = moved_codes t w x its ps e rest in
    record {
      others = one.0 ∷ all.others;
      code = more it one.0 its all.others one.1 all.code;
      same = ap (λ (k : PieceOf Key). k ∷ map (filled w) ps) one.2 ∙ ap (λ (ks : List (PieceOf Key)). filled x one.0 ∷ ks) all.same;
    }

-- the object depends on the filled pieces and the keys alone, and so does the size of code
pub same_object : (pkg : PackageRecord) (t : Target) (w x : List (List ℕ)) (ps qs : List PieceRecord) → map (filled w) ps ≡ map (filled x) qs → map keys_in w ≡ map keys_in x → gathered pkg t ps w ≡ gathered pkg t qs x
same_object pkg t w x ps qs pieces keys = ap (λ (fs : List (PieceOf Key)). object_of pkg t fs (map keys_in w)) pieces ∙ ap (λ (ks : List (List ℕ)). object_of pkg t (map (filled x) qs) ks) keys

size_filled : (w : List (List ℕ)) (ps : List PieceRecord) → sum_by (λ p. length p.code) (map (filled w) ps) ≡ sum_by (λ p. length p.code) ps
size_filled w [] = refl
size_filled w (p ∷ ps) =
    sum_by-cons (λ (q : PieceOf Key). length q.code) (filled w p) (map (filled w) ps)
    ∙ (ap (λ (n : ℕ). length p.code + n) (size_filled w ps) ∙ sym (sum_by-cons (λ (q : PieceRecord). length q.code) p ps))

pub same_size : (w x : List (List ℕ)) (ps qs : List PieceRecord) → map (filled w) ps ≡ map (filled x) qs → map keys_in w ≡ map keys_in x → code_size ps (keys_in (area w 2)) ≡ code_size qs (keys_in (area x 2))
same_size w x ps qs pieces keys =
    let code : sum_by (λ (p : PieceRecord). length p.code) ps ≡ sum_by (λ (q : PieceRecord). length q.code) qs =
    sym (size_filled w ps) ∙ (ap (λ (fs : List (PieceOf Key)). sum_by (λ (q : PieceOf Key). length q.code) fs) pieces ∙ size_filled x qs) in
    ap (λ (n : ℕ). 4 * n + 8 * length (keys_in (area w 2))) code ∙ ap (λ (pool : List ℕ). 4 * sum_by (λ (q : PieceRecord). length q.code) qs + 8 * length pool) (same_area w x 2 keys)

-- one thread would make these pieces and words, and of both comes the same object
pub record IsSerial (pkg : PackageRecord) (t : Target) (rules : RulesRecord) (ps : List PieceRecord) (words : List (List ℕ)) : Type 0 where
  pub pieces : List PieceRecord
  pub cells : List (List ℕ)
  pub made : ArePieces pkg t rules pieces cells
  pub object : gathered pkg t ps words ≡ gathered pkg t pieces cells
  pub size : code_size ps (keys_in (area words 2)) ≡ code_size pieces (keys_in (area cells 2))
