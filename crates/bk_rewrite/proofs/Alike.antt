-- Lists that are compared element by element.
use Rattle.std.proofs.Common.{◌≡◌, ℕ, zero, suc, ◌+◌, ◌<◌, ◌≤◌, add-one, refl, ap, sym, ◌∙◌, arith, List, [], ◌∷◌, ◌++◌, length, get_or, take, take_all, subst, inl, inr}
use Rattle.std.proofs.lemmas.Bool.{cases_lt}
use Rattle.std.proofs.Math.Seq.{take-suc}
use Rattle.bk_func.specs.Records.{ValueRecord, BlockRecord, SigRecord, FuncRecord}

pub alike_more : {X : Type 0} (xs ys : List X) (i : ℕ) (x y : X) → take i xs ≡ take i ys → i < length xs → i < length ys →
    x ≡ get_or xs i x → y ≡ get_or ys i y → x ≡ y → take (i + 1) xs ≡ take (i + 1) ys
alike_more xs ys i x y h l m e d q =
    let a : take (i + 1) xs ≡ take i xs ++ x ∷ [] = ap (λ n. take n xs) (add-one i) ∙ (take-suc xs i x l ∙ ap (λ z. take i xs ++ z ∷ []) (sym e)) in
    let b : take (i + 1) ys ≡ take i ys ++ y ∷ [] = ap (λ n. take n ys) (add-one i) ∙ (take-suc ys i y m ∙ ap (λ z. take i ys ++ z ∷ []) (sym d)) in
    a ∙ (ap (λ zs. zs ++ x ∷ []) h ∙ (ap (λ z. take i ys ++ z ∷ []) q ∙ sym b))

pub alike_all : {X : Type 0} (xs ys : List X) (i : ℕ) → take i xs ≡ take i ys → length xs ≤ i → length ys ≤ i → xs ≡ ys
alike_all xs ys i h l m = sym (take_all i xs l) ∙ (h ∙ take_all i ys m)

default_apart : {X : Type 0} (xs : List X) (i : ℕ) (x y : X) → i < length xs → get_or xs i x ≡ get_or xs i y
default_apart [] i x y l = absurd (omega arith)
default_apart (z ∷ xs) zero x y l = refl
default_apart (z ∷ xs) (suc i) x y l = default_apart xs i x y (omega arith)

pub unlike_at : {X : Type 0} (xs ys : List X) (i : ℕ) (x y : X) → i < length ys → x ≡ get_or xs i x → y ≡ get_or ys i y → (x ≡ y → ⊥) → xs ≡ ys → ⊥
unlike_at xs ys i x y l e d h q = h (e ∙ (ap (λ zs. get_or zs i x) q ∙ (default_apart ys i x y l ∙ sym d)))

pub unlike_length : {X : Type 0} (xs ys : List X) → (length xs ≡ length ys → ⊥) → xs ≡ ys → ⊥
unlike_length xs ys h q = h (ap length q)

-- each element has what is asked, element by element
pub all_more : {X : Type 0} (P : X → Type 0) (xs : List X) (i : ℕ) (x : X) → i < length xs → x ≡ get_or xs i x → P x →
    ((k : ℕ) (d : X) → k < i → P (get_or xs k d)) → (k : ℕ) (d : X) → k < i + 1 → P (get_or xs k d)
all_more P xs i x l e p h k d m = elim (cases_lt k i) [
  | inl n ↦ h k d n
  | inr n ↦ (let q : i ≡ k = omega arith in
      subst P (e ∙ (default_apart xs i x d l ∙ ap (λ j. get_or xs j d) q)) p)
]

-- ---- records by their fields
pub value_same : (v w : ValueRecord) → v.id ≡ w.id → v.op ≡ w.op → v.ty ≡ w.ty → v.args ≡ w.args → v.int ≡ w.int → v.aux ≡ w.aux → v ≡ w
value_same v w a b c d e f = λ i. record { id = a i; op = b i; ty = c i; args = d i; int = e i; aux = f i }

pub block_same : (v w : BlockRecord) → v.id ≡ w.id → v.kind ≡ w.kind → v.control ≡ w.control → v.preds ≡ w.preds → v.succs ≡ w.succs → v.likely ≡ w.likely → v.values ≡ w.values → v ≡ w
block_same v w a b c d e f g = λ i. record { id = a i; kind = b i; control = c i; preds = d i; succs = e i; likely = f i; values = g i }

pub func_same : (v w : FuncRecord) → v.name ≡ w.name → v.sig ≡ w.sig → v.blocks ≡ w.blocks → v.given ≡ w.given → v ≡ w
func_same v w a b c d = λ i. record { name = a i; sig = b i; blocks = c i; given = d i }

pub sig_same : (v w : SigRecord) → v.args ≡ w.args → v.results ≡ w.results → v ≡ w
sig_same v w a b = λ i. record { args = a i; results = b i }
