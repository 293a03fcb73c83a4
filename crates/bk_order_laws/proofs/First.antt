-- A state of a block comes before each value of the block that names it.
use Rattle.std.proofs.Common.{◌≡◌, ℕ, refl, sym, ◌∙◌, subst, ◌⊎◌, inl, inr}
use Rattle.bk_ops.specs.declared.family.Family.TheVariants as op
use Rattle.bk_func.specs.Records.{ValueRecord, BlockRecord, FuncRecord}
use Rattle.bk_func.specs.Form.Text.{HasValue, IsPhi}
use Rattle.bk_func.specs.Form.Walks.{IsReached, IsDefinedAt}
use Rattle.bk_func.specs.Form.States.{StandsFor, itself, copied as through_copy, Names}
use Rattle.bk_func.specs.Form.Signatures.{Setting}
use Rattle.bk_func.proofs.Faults.{In}
use Rattle.bk_places.proofs.Elements.{to_contains}
use Rattle.bk_mean.proofs.Named.{got_in}
use Rattle.bk_mean.proofs.Dominance.{Dominates, dominates_itself, dominates_onward, one_dominates, defined_from, defined_here, home, arguments_defined}
use Rattle.bk_order_laws.specs.Base.{argument, BasePrecedes, right, onward}
use Rattle.bk_order_laws.proofs.Standing.{Standing, names_no_phi}

pub base_onward : (f : FuncRecord) (b : BlockRecord) (t u v : ValueRecord) → BasePrecedes f b t u → BasePrecedes f b u v → BasePrecedes f b t v
base_onward f b _ _ v (right t u h) k = onward t u v h k
base_onward f b _ _ v (onward t u w h l) k = onward t u v h (base_onward f b u w v l k)

copy_no_phi : (v : ValueRecord) → v.op.family ≡ op.Copy → ¬ IsPhi v
copy_no_phi v e p = let d = sym e ∙ p in absurd cc

taken : (f : FuncRecord) (c : BlockRecord) (u v : ValueRecord) → HasValue f c u → HasValue f c v → ¬ IsPhi v → In u.id v.args → BasePrecedes f c u v
taken f c u v i j p k = right u v (argument u v (i.1, j.1, p, to_contains u.id v.args k))

-- a state that a number stands for at a block that is dominated by the state's bears the number, or comes before what bears it
state_first : (s : Setting) (f : FuncRecord) → Standing s f → (c : BlockRecord) → IsReached f c → (u : ValueRecord) → HasValue f c u →
    (b : BlockRecord) → IsReached f b → Dominates f b c → (n m : ℕ) → IsDefinedAt f b n → StandsFor f n m → u.id ≡ m →
    (w : ValueRecord) × HasValue f c w × (w.id ≡ n) × ((w ≡ u) ⊎ BasePrecedes f c u w)
state_first s f h c rc u iu b rb over _ _ d (itself a v i other) e = (u, iu, e, inl refl)
state_first s f h c rc u iu b rb over _ _ d (through_copy a v n m i y g t) e =
    let q = home f h.named b v.id rb d in
    let same = h.named.same_block q.block a q.value v q.stands i q.named in
    let over_a : Dominates f a b = (let P : BlockRecord → Type 0 = λ x. Dominates f x b in subst P same q.dominates) in
    let reached : IsReached f a = (let P : BlockRecord → Type 0 = λ x. IsReached f x in subst P same q.reached) in
    let j = got_in v.args 0 n g in
    let dn = arguments_defined s f h.named h.uses a a v i (copy_no_phi v y.0) (defined_here f a v.id (v, i.1, refl)) n j in
    let r = state_first s f h c rc u iu a reached (dominates_onward f a b c over_a over) n m dn t e in
    let back : Dominates f c a = defined_from f h.named c a r.0 r.1 (let P : ℕ → Type 0 = λ x. IsDefinedAt f a x in subst P (sym r.2) dn) in
    let one : a ≡ c = one_dominates f a c rc (dominates_onward f a b c over_a over) back in
    let here : HasValue f c v = (let P : BlockRecord → Type 0 = λ x. HasValue f x v in subst P one i) in
    let last : BasePrecedes f c r.0 v = taken f c r.0 v r.1 here (copy_no_phi v y.0) (let P : ℕ → Type 0 = λ x. In x v.args in subst P (sym r.2) j) in (
      v,
      here,
      refl,
      inr (elim r.3 as (λ _. BasePrecedes f c u v) [
        | inl z ↦ (let P : ValueRecord → Type 0 = λ x. BasePrecedes f c x v in subst P z last)
        | inr z ↦ base_onward f c u r.0 v z last
      ]),
    )

-- a state comes before a value of its block that names it
pub named_first : (s : Setting) (f : FuncRecord) → Standing s f → (c : BlockRecord) → IsReached f c → (v u : ValueRecord) → HasValue f c v → HasValue f c u → (m : ℕ) → Names f v m → u.id ≡ m → BasePrecedes f c u v
named_first s f h c r v u i iu m names e = go names
  where
    p : ¬ IsPhi v
    p = names_no_phi s f h c v i m names

    go : Names f v m → BasePrecedes f c u v
    go (k, n, at, got, stands) =
        let j = got_in v.args k n got in
        let d = arguments_defined s f h.named h.uses c c v i p (defined_here f c v.id (v, i.1, refl)) n j in
        let w = state_first s f h c r u iu c r (dominates_itself f c) n m d stands e in
        let last : BasePrecedes f c w.0 v = taken f c w.0 v w.1 i p (let P : ℕ → Type 0 = λ x. In x v.args in subst P (sym w.2) j) in
        elim w.3 as (λ _. BasePrecedes f c u v) [
          | inl y ↦ (let P : ValueRecord → Type 0 = λ x. BasePrecedes f c x v in subst P y last)
          | inr y ↦ base_onward f c u w.0 v y last
        ]
