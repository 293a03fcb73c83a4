-- Values with one number are one value, in one place.
use Rattle.std.proofs.Common.{◌≡◌, ◌∙◌, sym, refl, ap, subst, ℕ, zero, suc, ◌≤◌, ◌==◌, List, [], ◌∷◌, Some, arith, eq-eqb}
use Rattle.std.specs.List.{Contains, count_by, slice_get, sum_by}
use Rattle.std.proofs.lemmas.List.Sums.{sum_by-cons}
use Rattle.std.proofs.lemmas.Option.{same_Some, slice_get_past, none-some}
use Rattle.bk_func.specs.Records.{ValueRecord, BlockRecord, FuncRecord}
use Rattle.bk_func.specs.Form.Text.{HasValue}
use Rattle.bk_func.specs.Form.Parts.{IsValueNumber}
use Rattle.bk_live.specs.Live.{IsOrdered, IsEntry}
use Rattle.bk_live.proofs.Alone.{at_contains, count_alone, entry_alone, value_entry, value_number}

-- where a value stands
pub record Stands (f : FuncRecord) (os : List (List ℕ)) (b : BlockRecord) (v : ValueRecord) : Type 0 where
  pub i : ℕ
  pub k : ℕ
  pub at : slice_get f.blocks i ≡ Some b
  pub entry : IsEntry os i k v.id

pub stands : (f : FuncRecord) (os : List (List ℕ)) → IsOrdered f os → (b : BlockRecord) (v : ValueRecord) → HasValue f b v → Stands f os b v
stands f os o b v (hb, hv) =
    let p = at_contains f.blocks b hb in
    let e = value_entry f os o p.0 b v p.1 hv in
    record { i = p.0; k = e.0; at = p.1; entry = e.1 }

nothing_at : {A : Type 0} (i : ℕ) (x : A) → slice_get [] i ≡ Some x → ⊥
nothing_at i x e = none-some x (sym (slice_get_past [] i (omega arith)) ∙ e)

in_sum : {A : Type 0} (g : A → ℕ) (xs : List A) (i : ℕ) (x : A) → slice_get xs i ≡ Some x → g x ≤ sum_by g xs
in_sum g [] i x e = absurd (nothing_at i x e)
in_sum g (y ∷ xs) zero x e = let same : g y ≡ g x = ap g (same_Some y x e) in omega (arith, sum_by-cons g y xs)
in_sum g (y ∷ xs) (suc i) x e = let l : g x ≤ sum_by g xs = in_sum g xs i x e in omega (arith, sum_by-cons g y xs)

pub record Same (b c : BlockRecord) (u v : ValueRecord) : Type 0 where
  pub blocks : b ≡ c
  pub values : u ≡ v

pub same : (f : FuncRecord) (os : List (List ℕ)) → IsOrdered f os → (b c : BlockRecord) (u v : ValueRecord) → HasValue f b u → HasValue f c v → u.id ≡ v.id → Same b c u v
unfolding IsValueNumber
same f os o b c u v hu hv e =
    let p = stands f os o b u hu in
    let q = stands f os o c v hv in
    let one = entry_alone f os o q.i p.i q.k p.k v.id q.entry (subst (λ (x : ℕ). IsEntry os p.i p.k x) e p.entry) in
    let at : slice_get f.blocks p.i ≡ Some c = subst (λ (i : ℕ). slice_get f.blocks i ≡ Some c) one.0 q.at in
    let d : b ≡ c = same_Some b c (sym p.at ∙ at) in
    let m = at_contains b.values u hu.1 in
    let n = at_contains b.values v (subst (λ (x : BlockRecord). Contains x.values v) (sym d) hv.1) in
    let sum : sum_by (λ (x : BlockRecord). count_by (λ (w : ValueRecord). w.id == v.id) x.values) f.blocks ≡ 1 = value_number f os o c v hv in
    let few : count_by (λ (w : ValueRecord). w.id == v.id) b.values ≤ sum_by (λ (x : BlockRecord). count_by (λ (w : ValueRecord). w.id == v.id) x.values) f.blocks =
    in_sum (λ (x : BlockRecord). count_by (λ (w : ValueRecord). w.id == v.id) x.values) f.blocks p.i b p.at in
    let k : m.0 ≡ n.0 = count_alone (λ (w : ValueRecord). w.id == v.id) b.values m.0 n.0 u v (omega arith) m.1 n.1 (eq-eqb u.id v.id e) (eq-eqb v.id v.id refl) in
    record { blocks = d; values = same_Some u v (sym m.1 ∙ (ap (λ (j : ℕ). slice_get b.values j) k ∙ n.1)) }
