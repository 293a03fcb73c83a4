-- Walks through one block.
use Rattle.std.proofs.Common.{◌≡◌, ◌∙◌, sym, refl, ap, subst, ℕ, zero, suc, ◌+◌, ◌-◌, ◌<◌, ◌≤◌, ◌⊎◌, List, length, inl, inr, ⊎_elim, arith, add-one}
use Rattle.std.proofs.lemmas.Bool.{cases_lt}
use Rattle.std.proofs.lemmas.Option.{same_Some, slice_get_within}
use Rattle.bk_func.specs.Records.{FuncRecord}
use Rattle.bk_live.specs.Counts.{cost_of, steps_between}
use Rattle.bk_live.specs.Live.{IsEntry, IsUsedAt, HasSuccessor, order_at, Leads, here, pass, leave, cost}
use Rattle.bk_live.specs.Seen.{IsFree}
use Rattle.bk_live.proofs.Alone.{at_some}
use Rattle.bk_live.proofs.Counting.{cost_next, cost_grows}

-- how much the first k entries of the block at i count
abbrev pub count_to : FuncRecord → List (List ℕ) → ℕ → ℕ → ℕ
count_to f os i k = cost_of f (order_at os i) k

-- a walk from further on, where n does not stand before
pub passes : (f : FuncRecord) (os : List (List ℕ)) (n i k l m d : ℕ) → k ≤ l → l ≤ length (order_at os i) → IsFree os n i k l → count_to f os i l ≡ count_to f os i k + d → Leads f os n i l m
    → Leads f os n i k (d + m)
passes f os n i k zero m d low inside free sum walk =
    let same : k ≡ 0 = omega arith in
    let none : d ≡ 0 = omega (arith, ap (count_to f os i) same) in
    let sums : m ≡ d + m = omega arith in
    subst (λ (j : ℕ). Leads f os n i j (d + m)) (sym same) (subst (λ (w : ℕ). Leads f os n i 0 w) sums walk)
passes f os n i k (suc l) m d low inside free sum walk = ⊎_elim
    (λ (less : k < suc l).
    let (x, e) = at_some (order_at os i) l (omega arith) in
    let apart : ¬ (x ≡ n) = λ same. free l (omega arith) (omega arith) (subst (λ (y : ℕ). IsEntry os i l y) same e) in
    let next : count_to f os i (suc l) ≡ count_to f os i l + cost f x = ap (count_to f os i) (sym (add-one l)) ∙ cost_next f (order_at os i) l x e in
    let grows : count_to f os i k ≤ count_to f os i l = cost_grows f (order_at os i) k l (omega arith) in
    let back : Leads f os n i l (cost f x + m) = pass i l x m e apart (subst (λ (j : ℕ). Leads f os n i j m) (sym (add-one l)) walk) in
    let sums : (count_to f os i l - count_to f os i k) + (cost f x + m) ≡ d + m = omega arith in
    subst (λ (w : ℕ). Leads f os n i k w) sums
    (passes f os n i k l (cost f x + m) (count_to f os i l - count_to f os i k) (omega arith) (omega arith) (λ j a b. free j a (omega arith)) (omega arith) back))
    (λ (last : suc l ≤ k).
    let same : k ≡ suc l = omega arith in
    let none : d ≡ 0 = omega (arith, ap (count_to f os i) same) in
    let sums : m ≡ d + m = omega arith in
    subst (λ (j : ℕ). Leads f os n i j (d + m)) (sym same) (subst (λ (w : ℕ). Leads f os n i (suc l) w) sums walk))
    (cases_lt k (suc l))

-- what a walk does in its first block: it ends at a use in it, or leaves it; on the way there n does not stand
abbrev pub EndsAt : FuncRecord → List (List ℕ) → ℕ → ℕ → ℕ → ℕ → Type 0
EndsAt f os n i k m = (l : ℕ) × k ≤ l × IsUsedAt f os n i l × IsFree os n i k l × (m ≡ steps_between (count_to f os i k) (count_to f os i l))

abbrev pub LeavesBy : FuncRecord → List (List ℕ) → ℕ → ℕ → ℕ → ℕ → Type 0
LeavesBy f os n i k m =
    ((l : ℕ) → IsFree os n i k l)
    × ((j p : ℕ) × HasSuccessor f i j × Leads f os n j 0 p × (m ≡ steps_between (count_to f os i k) (count_to f os i (length (order_at os i))) + p))

pub comes : (f : FuncRecord) (os : List (List ℕ)) (n i k m : ℕ) → Leads f os n i k m → EndsAt f os n i k m ⊎ LeavesBy f os n i k m
comes f os n _ _ _ (here i k used) = inl (k, omega arith, used, (λ j a b. absurd (omega arith)), omega arith)
comes f os n _ _ _ (pass i k x m entry apart walk) = ⊎_elim
    (λ (l, low, used, free, sum).
    let grows : count_to f os i (k + 1) ≤ count_to f os i l = cost_grows f (order_at os i) (k + 1) l low in
    inl (l, omega arith, used, (λ j a b. ⊎_elim (λ (later : k < j). free j (omega arith) b) (λ (sooner : j ≤ k). first j a sooner) (cases_lt k j)), omega (arith, counts, sum)))
    (λ (free, (q, p, next, rest, sum)).
    let inside : k < length (order_at os i) = slice_get_within (order_at os i) k x entry in
    let grows : count_to f os i (k + 1) ≤ count_to f os i (length (order_at os i)) = cost_grows f (order_at os i) (k + 1) (length (order_at os i)) (omega arith) in
    inr ((λ l j a b. ⊎_elim (λ (later : k < j). free l j (omega arith) b) (λ (sooner : j ≤ k). first j a sooner) (cases_lt k j)), (q, p, next, rest, omega (arith, counts, sum))))
    (comes f os n i (k + 1) m walk)
  where
    counts : count_to f os i (k + 1) ≡ count_to f os i k + cost f x
    counts = cost_next f (order_at os i) k x entry

    first : (j : ℕ) → k ≤ j → j ≤ k → ¬ IsEntry os i j n
    first j a b e = let same : j ≡ k = omega arith in apart (same_Some x n (sym entry ∙ subst (λ (l : ℕ). IsEntry os i l n) same e))
comes f os n _ _ _ (leave i q k m end next walk) =
    let same : count_to f os i k ≡ count_to f os i (length (order_at os i)) = ap (count_to f os i) end in
    inr ((λ l j a b e. let inside : j < length (order_at os i) = slice_get_within (order_at os i) j n e in absurd (omega arith)), (q, m, next, walk, omega arith))

-- a place is there where something is used
pub used_within : (f : FuncRecord) (os : List (List ℕ)) (n i k : ℕ) → IsUsedAt f os n i k → k ≤ length (order_at os i)
used_within f os n i k used = ⊎_elim
    (λ (x, entry, takes). let l : k < length (order_at os i) = slice_get_within (order_at os i) k x entry in omega arith)
    (λ (end, behind). omega arith)
    used

-- a use further on, and a successor, make walks
pub ends_at : (f : FuncRecord) (os : List (List ℕ)) (n i k l : ℕ) → k ≤ l → IsUsedAt f os n i l → IsFree os n i k l → Leads f os n i k (steps_between (count_to f os i k) (count_to f os i l))
ends_at f os n i k l low used free =
    let grows : count_to f os i k ≤ count_to f os i l = cost_grows f (order_at os i) k l low in
    passes f os n i k l 1 (count_to f os i l - count_to f os i k) low (used_within f os n i l used) free (omega arith) (here i l used)

pub leaves_by : (f : FuncRecord) (os : List (List ℕ)) (n i k j p : ℕ) → k ≤ length (order_at os i) → ((l : ℕ) → IsFree os n i k l) → HasSuccessor f i j → Leads f os n j 0 p
    → Leads f os n i k (steps_between (count_to f os i k) (count_to f os i (length (order_at os i))) + p)
leaves_by f os n i k j p low free next walk =
    let e : ℕ = length (order_at os i) in
    let grows : count_to f os i k ≤ count_to f os i e = cost_grows f (order_at os i) k e low in
    let sums : (count_to f os i e - count_to f os i k) + (1 + p) ≡ steps_between (count_to f os i k) (count_to f os i e) + p = omega arith in
    subst (λ (w : ℕ). Leads f os n i k w) sums
    (passes f os n i k e (1 + p) (count_to f os i e - count_to f os i k) low (omega arith) (free e) (omega arith) (leave i j e p refl next walk))
