-- What stands where a value was.
use Rattle.std.proofs.Common.{◌≡◌, ℕ, ap, sym, subst, ◌∙◌, List, Some, Result, OnOk}
use Rattle.bk_ops.specs.declared.types.Target.{Target}
use Rattle.bk_func.specs.Records.{ValueRecord, FuncRecord}
use Rattle.bk_rule.specs.declared.trees.Bound.{Bound}
use Rattle.bk_rule.specs.declared.trees.Rule.{Rule}
use Rattle.bk_rewrite.specs.Places.{HasNumbers, value_at}
use Rattle.bk_rewrite.specs.Making.{source, applied}

same_value : (f : FuncRecord) (b p c q : ℕ) (v w : ValueRecord) → b ≡ c → p ≡ q → value_at f b p ≡ Some v → value_at f c q ≡ Some w → w ≡ v
same_value f b p c q v w m n e k =
    let s : Some w ≡ Some v = sym k ∙ (ap (λ i. value_at f i q) (sym m) ∙ (ap (λ i. value_at f b i) (sym n) ∙ e)) in cc

-- a value with the number is the only one, wherever it was found
pub applied_here : {X E : Type 0} (res : Result X E) (f g : FuncRecord) (bs : List Bound) (t : Target) (r z : Rule) (id b p c q : ℕ) (v w : ValueRecord) → HasNumbers f → z ≡ r →
    value_at f b p ≡ Some v → v.id ≡ id → value_at f c q ≡ Some w → w.id ≡ id → OnOk res (g ≡ applied (source f bs t) z.right c q w) → OnOk res (g ≡ applied (source f bs t) r.right b p v)
applied_here res f g bs t r z id b p c q v w u d e h k l x =
    let (m, n) = u id b p c q (v, e, h) (w, k, l) in
    let y : OnOk res (g ≡ applied (source f bs t) r.right c q w) = subst (λ (a : Rule). OnOk res (g ≡ applied (source f bs t) a.right c q w)) d x in
    let y1 : OnOk res (g ≡ applied (source f bs t) r.right b q w) = subst (λ (i : ℕ). OnOk res (g ≡ applied (source f bs t) r.right i q w)) (sym m) y in
    let y2 : OnOk res (g ≡ applied (source f bs t) r.right b p w) = subst (λ (i : ℕ). OnOk res (g ≡ applied (source f bs t) r.right b i w)) (sym n) y1 in
    subst (λ (a : ValueRecord). OnOk res (g ≡ applied (source f bs t) r.right b p a)) (same_value f b p c q v w m n e k) y2
