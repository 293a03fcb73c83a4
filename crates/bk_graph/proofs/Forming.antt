-- The blocks of a function in form are joined.
use Rattle.std.proofs.Common.{◌≡◌, ◌∙◌, sym, refl, ap, ℕ, zero, suc, ◌+◌, ◌*◌, ◌^◌, ◌<◌, ◌≤◌, ◌==◌, cond, if◌then◌else◌, true, false, nat_lt, List, [], ◌∷◌, length, get_or, Option, ⊎_elim, arith, add-zero, zero-add}
use Rattle.std.specs.List.{list_any, count_by, sum_by, Contains}
use Rattle.std.proofs.lemmas.Bool.{cases_eq, eq-eqb, ne_eqb, lt-ltb}
use Rattle.std.proofs.lemmas.List.Sums.{sum_by-cons}
use Rattle.bk_func.specs.declared.form.FormKind.TheVariants.{Control, Missing}
use Rattle.bk_func.specs.declared.parts.Kind.{Kind}
use Rattle.bk_func.specs.declared.parts.Kind.TheVariants.{Plain, If, First, Ret, Exit}
use Rattle.bk_func.specs.Edits.{greatest_block}
use Rattle.bk_func.specs.Records.{BlockRecord, FuncRecord}
use Rattle.bk_func.specs.Form.Parts.{FitsKind}
use Rattle.bk_func.specs.Form.Text.{HasBlock}
use Rattle.bk_graph.specs.Given.{IsGiven}
use Rattle.bk_graph.specs.Joined.{IsJoined}
use Rattle.bk_graph.proofs.Crossing.{counted_once}
use Rattle.bk_graph.proofs.Listed.{one_counted}

-- a sum over the one block with the number
sum_none : (n : ℕ) (g : BlockRecord → ℕ) (bs : List BlockRecord) → count_by (λ c. c.id == n) bs ≡ 0 → sum_by (λ c. if c.id == n then g c else 0) bs ≡ 0
sum_none n g [] h = refl
sum_none n g (c ∷ cs) h =
    let s = sum_by-cons (λ (x : BlockRecord). cond (x.id == n) 1 0) c cs in
    sum_by-cons (λ (x : BlockRecord). if x.id == n then g x else 0) c cs
    ∙ (elim (c.id == n) as (λ t. cond t 1 0 + count_by (λ x. x.id == n) cs ≡ 0 → (if t then g c else 0) + sum_by (λ x. if x.id == n then g x else 0) cs ≡ 0) [
      | true ↦ λ k. absurd (omega (arith, k))
      | false ↦ λ k. zero-add (sum_by (λ (x : BlockRecord). if x.id == n then g x else 0) cs) ∙ sum_none n g cs (sym (zero-add (count_by (λ (x : BlockRecord). x.id == n) cs)) ∙ k)
    ] (sym s ∙ h))

sum_sole : (b : BlockRecord) (g : BlockRecord → ℕ) (bs : List BlockRecord) → count_by (λ c. c.id == b.id) bs ≡ 1 → Contains bs b
    → sum_by (λ c. if c.id == b.id then g c else 0) bs ≡ g b
sum_sole b g [] one (k, l, r) = absurd (omega (arith, l))
sum_sole b g (c ∷ cs) one (k, l, r) =
    let s = sum_by-cons (λ (x : BlockRecord). cond (x.id == b.id) 1 0) c cs in
    let t = sum_by-cons (λ (x : BlockRecord). if x.id == b.id then g x else 0) c cs in
    t ∙ ⊎_elim
    (λ (here : c.id ≡ b.id).
    let none : count_by (λ x. x.id == b.id) cs ≡ 0 = rest_none (count_by (λ x. x.id == b.id) cs) (rw (eq-eqb c.id b.id here) at (sym s ∙ one)) in
    rw (eq-eqb c.id b.id here, sum_none b.id g cs none) (add-zero (g c) ∙ ap g (first_is k l r none)))
    (λ (other : c.id ≡ b.id → ⊥).
    rw (ne_eqb c.id b.id other) (zero-add (sum_by (λ (x : BlockRecord). if x.id == b.id then g x else 0) cs)
    ∙ sum_sole b g cs (sym (zero-add (count_by (λ (x : BlockRecord). x.id == b.id) cs)) ∙ (rw (ne_eqb c.id b.id other) at (sym s ∙ one))) (later k l r other)))
    (cases_eq c.id b.id)
  where
    rest_none : (n : ℕ) → 1 + n ≡ 1 → n ≡ 0
    rest_none n h = omega arith

    first_is : (k : ℕ) → k < suc (length cs) → get_or (c ∷ cs) k b ≡ b → count_by (λ x. x.id == b.id) cs ≡ 0 → c ≡ b
    first_is zero l r none = r
    first_is (suc k) l r none =
        let t = one_counted (λ (x : BlockRecord). x.id == b.id) cs k b (omega (arith, l)) (eq-eqb (get_or cs k b).id b.id (ap (λ (x : BlockRecord). x.id) r)) in
        absurd (omega (arith, t, none))

    later : (k : ℕ) → k < suc (length cs) → get_or (c ∷ cs) k b ≡ b → (c.id ≡ b.id → ⊥) → Contains cs b
    later zero l r other = absurd (other (ap (λ (x : BlockRecord). x.id) r))
    later (suc k) l r other = (k, omega (arith, l), r)

any_counted : (n : ℕ) (xs : List ℕ) → list_any (λ m. m == n) xs ≡ nat_lt 0 (count_by (λ m. m == n) xs)
any_counted n [] = refl
any_counted n (x ∷ xs) =
    let s = sum_by-cons (λ m. cond (m == n) 1 0) x xs in
    ⊎_elim
    (λ (here : x ≡ n). rw (s, eq-eqb x n here) (sym (lt-ltb 0 (1 + count_by (λ m. m == n) xs) (omega arith))))
    (λ (other : x ≡ n → ⊥). rw (s, ne_eqb x n other, zero-add) (any_counted n xs))
    (cases_eq x n)

few_succs : (k : Kind) (ss : List ℕ) (c : Option ℕ) → FitsKind k ss c → length ss ≤ 2
few_succs Plain ss c h = omega (arith, h.0)
few_succs If ss c h = omega (arith, h.0)
few_succs First ss c h = omega (arith, h.0)
few_succs Ret ss c h = rw h.0 (omega arith)
few_succs Exit ss c h = rw h.0 (omega arith)

once : (f : FuncRecord) → IsGiven f → (b : BlockRecord) → HasBlock f b → count_by (λ c. c.id == b.id) f.blocks ≡ 1
once f g b h = counted_once f b.id (g.formed.kinds Missing b h).block.own

agree : (f : FuncRecord) → IsGiven f → (a b : BlockRecord) → HasBlock f a → HasBlock f b
    → list_any (λ m. m == a.id) b.preds ≡ list_any (λ n. n == b.id) a.succs
agree f g a b i j =
    let out = sum_sole a (λ (c : BlockRecord). count_by (λ s. s == b.id) c.succs) f.blocks (once f g a i) i in
    let into = sum_sole b (λ (c : BlockRecord). count_by (λ p. p == a.id) c.preds) f.blocks (once f g b j) j in
    let same = (g.formed.kinds Control b j).block.into a.id in
    any_counted a.id b.preds ∙ ap (nat_lt 0) (sym (sym out ∙ same ∙ into)) ∙ sym (any_counted b.id a.succs)

enough : (a c : ℕ) → a < 4000000000 → c < 100000000 → a + c * 2 < 2 ^ 32
enough a c l n = omega arith

pub joined : (f : FuncRecord) → IsGiven f → IsJoined f
joined f g = record {
  own = λ b h. (g.formed.kinds Missing b h).block.own;
  named = λ b h. (g.formed.kinds Missing b h).block.succs;
  agree = agree f g;
  few = λ b h. few_succs b.kind b.succs b.control (g.formed.kinds Control b h).block.kind;
  room = enough (greatest_block f) (length f.blocks) g.blocks g.count;
}
