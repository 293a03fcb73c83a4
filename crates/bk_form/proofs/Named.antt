-- The value that a number names, and the call that a value's first argument names.
use Rattle.std.proofs.Common.{◌≡◌, ◌∙◌, sym, refl, ap, subst, ℕ, ◌+◌, ◌↔◌, List, Option, None, Some}
use Rattle.std.specs.List.{All, slice_get}
use Rattle.std.specs.Option.{option_map}
use Rattle.std.proofs.lemmas.List.Elements.{All-get_or}
use Rattle.std.proofs.lemmas.Option.{none-some, same_Some, slice_get_within, get_or_from_slice_get}
use Rattle.bk_func.specs.Records.{ValueRecord, BlockRecord, FuncRecord, SigRecord, PackageRecord}
use Rattle.bk_func.specs.Form.Text.{HasValue}
use Rattle.bk_func.specs.Form.Parts.{IsValueNumber}
use Rattle.bk_func.specs.Form.Signatures.{ResultOf}
use Rattle.bk_places.proofs.Elements.{contains_at, at_contains}
use Rattle.bk_form.specs.Numbers.{value_ids, sole}
use Rattle.bk_form.specs.Places.{NodeRecord, node_at, nodes_of, value_with, callee_named}
use Rattle.bk_form.proofs.Standing.{node_stands, node_for, node_of, node_alone, named_at}

pub named_value : (f : FuncRecord) (n : ℕ) (b : BlockRecord) (v : ValueRecord) → IsValueNumber f n → HasValue f b v → v.id ≡ n → value_with f n ≡ Some v
unfolding value_with
named_value f n b v one (hb, hv) e =
    let (i, ei) = at_contains f.blocks b hb in
    let (p, ep) = node_for 0 f.blocks i b v ei hv in
    ap (option_map (λ (m : NodeRecord). m.value)) (named_at f n p (node_at (0 + i) v) (node_alone f n p (node_at (0 + i) v) one ep e) ep)

pub value_there : (f : FuncRecord) (n : ℕ) → IsValueNumber f n → (b : BlockRecord) × (v : ValueRecord) × (value_with f n ≡ Some v) × HasValue f b v × (v.id ≡ n)
unfolding value_with
value_there f n one =
    let (p, m, s, g, h) = node_of f n one in
    let (j, b, home, at, c) = node_stands 0 f.blocks p m g in
    (b, m.value, ap (option_map (λ (m : NodeRecord). m.value)) (named_at f n p m s g), (contains_at f.blocks j b at, c), h)

pub value_stands : (f : FuncRecord) (n : ℕ) (v : ValueRecord) → IsValueNumber f n → value_with f n ≡ Some v → (b : BlockRecord) × HasValue f b v × (v.id ≡ n)
value_stands f n v one e =
    let (b, w, g, h, i) = value_there f n one in
    let same : w ≡ v = same_Some w v (sym g ∙ e) in
    (b, subst (λ (u : ValueRecord). HasValue f b u) same h, subst (λ (u : ValueRecord). u.id ≡ n) same i)

-- the value at the place that a number names, or none
pub found_value : (f : FuncRecord) (n p : ℕ) (m : NodeRecord) → sole (value_ids f) n ≡ Some p → slice_get (nodes_of f) p ≡ Some m → Some m.value ≡ value_with f n
unfolding value_with
found_value f n p m e g = rw (e, g) refl

pub no_place : (f : FuncRecord) (n : ℕ) → sole (value_ids f) n ≡ None → None ≡ value_with f n
unfolding value_with
no_place f n e = rw e refl

pub no_node : (f : FuncRecord) (n p : ℕ) → sole (value_ids f) n ≡ Some p → slice_get (nodes_of f) p ≡ None → None ≡ value_with f n
unfolding value_with
no_node f n p e g = rw (e, g) refl

-- each argument is the number of a value
pub argument_named : (f : FuncRecord) (ns : List ℕ) (i n : ℕ) → All (IsValueNumber f) ns → slice_get ns i ≡ Some n → IsValueNumber f n
argument_named f ns i n all e =
    subst (λ (m : ℕ). IsValueNumber f m) (get_or_from_slice_get ns i n n e) (All-get_or (IsValueNumber f) ns i n (slice_get_within ns i n e) all)

pub callee_from : (p : PackageRecord) (f : FuncRecord) (v : ValueRecord) (g : SigRecord) → All (IsValueNumber f) v.args → ResultOf p f v g → callee_named p f v ≡ Some g
unfolding callee_named
callee_from p f v g all (b, c, h, e, s) = rw (e, named_value f c.id b c (argument_named f v.args 0 c.id all e) h refl) s

callee_to_at : (p : PackageRecord) (f : FuncRecord) (v : ValueRecord) (g : SigRecord) (o : Option ℕ) → All (IsValueNumber f) v.args → slice_get v.args 0 ≡ o
    → callee_named p f v ≡ Some g → ResultOf p f v g
unfolding callee_named
callee_to_at p f v g None all e h = absurd (none-some g (rw e at h))
callee_to_at p f v g (Some n) all e h =
    let (b, c, w, st, i) = value_there f n (argument_named f v.args 0 n all e) in
    (b, c, st, e ∙ ap Some (sym i), rw (e, w) at h)

pub callee_to : (p : PackageRecord) (f : FuncRecord) (v : ValueRecord) (g : SigRecord) → All (IsValueNumber f) v.args → callee_named p f v ≡ Some g → ResultOf p f v g
callee_to p f v g all h = callee_to_at p f v g (slice_get v.args 0) all refl h

-- what holds of the one signature that a call has
pub the_call : (p : PackageRecord) (f : FuncRecord) (v : ValueRecord) (g : SigRecord) (P : SigRecord → Type 0) → All (IsValueNumber f) v.args → callee_named p f v ≡ Some g
    → P g ↔ ((h : SigRecord) × ResultOf p f v h × P h)
the_call p f v g P all e = (
  (λ x. (g, callee_to p f v g all e, x)),
  (λ (h, r, x). subst (λ (z : SigRecord). P z) (same_Some h g (sym (callee_from p f v h all r) ∙ e)) x),
)

pub no_call : (p : PackageRecord) (f : FuncRecord) (v : ValueRecord) (P : SigRecord → Type 0) → All (IsValueNumber f) v.args → callee_named p f v ≡ None
    → ((h : SigRecord) × ResultOf p f v h × P h) → ⊥
no_call p f v P all e (h, r, x) = none-some h (sym e ∙ callee_from p f v h all r)

pub each_call : (p : PackageRecord) (f : FuncRecord) (v : ValueRecord) (g : SigRecord) (P : SigRecord → Type 0) → All (IsValueNumber f) v.args → callee_named p f v ≡ Some g
    → P g ↔ ((h : SigRecord) → ResultOf p f v h → P h)
each_call p f v g P all e = (
  (λ x h r. subst (λ (z : SigRecord). P z) (same_Some g h (sym e ∙ callee_from p f v h all r)) x),
  (λ k. k g (callee_to p f v g all e)),
)

pub without_call : (p : PackageRecord) (f : FuncRecord) (v : ValueRecord) (P : SigRecord → Type 0) → All (IsValueNumber f) v.args → callee_named p f v ≡ None
    → (h : SigRecord) → ResultOf p f v h → P h
without_call p f v P all e h r = absurd (none-some h (sym e ∙ callee_from p f v h all r))

-- what holds of the one value that a number names
pub the_value : (f : FuncRecord) (n : ℕ) (v : ValueRecord) (P : ValueRecord → Type 0) → IsValueNumber f n → value_with f n ≡ Some v
    → P v ↔ ((b : BlockRecord) (u : ValueRecord) → HasValue f b u → u.id ≡ n → P u)
the_value f n v P one e = (
  (λ x b u h i. subst (λ (z : ValueRecord). P z) (same_Some v u (sym e ∙ named_value f n b u one h i)) x),
  (λ k. let (b, h, i) = value_stands f n v one e in k b v h i),
)

pub no_value_named : (f : FuncRecord) (n : ℕ) → IsValueNumber f n → value_with f n ≡ None → ⊥
no_value_named f n one e = let (b, v, g, h, i) = value_there f n one in none-some v (sym e ∙ g)
