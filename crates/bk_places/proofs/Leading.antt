-- Paths that go on, and the edges of the order as steps.
use Rattle.std.proofs.Common.{◌≡◌, ◌≢◌, ◌∙◌, sym, refl, ap, subst, ℕ, zero, suc, ◌+◌, ◌-◌, ◌<◌, ◌≤◌, ◌↔◌, List, [], length, get_or, replicate, inl, inr, ⊎_elim, arith}
use Rattle.std.specs.List.{Contains}
use Rattle.std.proofs.lemmas.Bool.{cases_lt}
use Rattle.std.proofs.lemmas.List.{get_or_default, get_or_past, get_or-replicate, length-replicate}
use Rattle.std.proofs.lemmas.List.Elements.{Contains-get_or}
use Rattle.bk_places.specs.declared.order.Lists.{Lists}
use Rattle.bk_places.specs.Order.{Adds, IsEnd, IsRightBefore}
use Rattle.bk_places.specs.Search.{Leads, IsEdge, Path, here, onward}
use Rattle.bk_places.proofs.Elements.{none_in}
use Rattle.bk_places.proofs.Reaching.{path_within}

-- paths one after the other
pub path_on : (es : List (List ℕ)) (a s p q : ℕ) → Path es a s p → Path es a p q → Path es a s q
path_on es a s p _ front (here within) = front
path_on es a s p _ front (onward t q path apart edge within) = onward t q (path_on es a s p t front path) apart edge within

pub leads_on : (es : List (List ℕ)) (p q r : ℕ) → Leads es p q → Leads es q r → Leads es p r
leads_on es p q r (t, e, w, path) (x, d, v, more) =
    let away : q ≢ length es = λ same. absurd (omega (arith, path_within es (length es) t q path)) in
    (t, e, w, path_on es (length es) t x r (onward q x path away d v) more)

-- a path with one more edge before it
pub path_before : (es : List (List ℕ)) (a s t p : ℕ) → s < length es → s ≢ a → IsEdge es s t → Path es a t p → Path es a s p
path_before es a s t _ low apart edge (here within) = onward s t (here low) apart edge within
path_before es a s t _ low apart edge (onward p q path away next within) = onward p q (path_before es a s t p low apart edge path) away next within

-- places of a rising list
pub index_of : (xs : List ℕ) (p : ℕ) → Contains xs p → (k : ℕ) × k < length xs × (get_or xs k 0 ≡ p)
index_of xs p (k, l, e) = (k, l, get_or_default xs k 0 p l ∙ e)

pub before_in : (xs : List ℕ) → ((j k : ℕ) → j < k → k < length xs → get_or xs j 0 < get_or xs k 0) → (j k : ℕ) → j < length xs → k < length xs → get_or xs j 0 < get_or xs k 0 → j < k
before_in xs rising j k a b l = ⊎_elim
    (λ (low : j < k). low)
    (λ (high : k ≤ j). ⊎_elim
    (λ (less : k < j). absurd (omega (arith, rising k j less a)))
    (λ (same : j ≤ k). let is : j ≡ k = omega arith in absurd (omega (arith, ap (λ n. get_or xs n 0) is)))
    (cases_lt k j))
    (cases_lt j k)

-- the edges of the order
abbrev pub AreRightBefore : List (List ℕ) → Lists → ℕ → List (List ℕ) → Type 0
AreRightBefore es l n ds = Adds (replicate (length es) []) (IsRightBefore es l n) ds

pub right_edge : (es : List (List ℕ)) (l : Lists) (n : ℕ) (ds : List (List ℕ)) → AreRightBefore es l n ds → (p q : ℕ) → IsEdge ds p q ↔ IsRightBefore es l n p q
right_edge es l n ds adds p q = (
  (λ e. ⊎_elim (λ c. absurd (none_in q (subst (λ (us : List ℕ). Contains us q) (nothing p) c))) (λ r. r) ((adds.edge p q).0 e)),
  (λ r. (adds.edge p q).1 (inr r)),
)
  where
    nothing : (p : ℕ) → get_or {A = List ℕ} (replicate (length es) []) p [] ≡ []
    nothing p = ⊎_elim (λ (b : p < length es). get_or-replicate (length es) p [] [] b) (λ c. get_or_past (replicate (length es) []) p [] (rw length-replicate c)) (cases_lt p (length es))

-- along a line of checks
pub line_leads : (es : List (List ℕ)) (l : Lists) (n : ℕ) (ds : List (List ℕ)) → AreRightBefore es l n ds → (g : ℕ) → g < n → ((p : ℕ) → Contains (get_or l.checks g []) p → p < length es)
    → (j k : ℕ) → j + 1 + k < length (get_or l.checks g []) → Leads ds (get_or (get_or l.checks g []) j 0) (get_or (get_or l.checks g []) (j + 1 + k) 0)
line_leads es l n ds adds g low within j zero short =
    let xs = get_or l.checks g [] in
    let inside = within (get_or xs (j + 1) 0) (Contains-get_or xs (j + 1) 0 (omega arith)) in
    let size : length ds ≡ length es = adds.size ∙ length-replicate (length es) [] in
    let edge : IsEdge ds (get_or xs j 0) (get_or xs (j + 1) 0) = (right_edge es l n ds adds (get_or xs j 0) (get_or xs (j + 1) 0)).1 (inr (g, low, inr (inl (j, omega arith, refl, refl)))) in
    let one : Leads ds (get_or xs j 0) (get_or xs (j + 1) 0) = (get_or xs (j + 1) 0, edge, omega (arith, inside, size), here (omega (arith, inside, size))) in
    let end : j + 1 ≡ j + 1 + 0 = omega arith in
    subst (λ (m : ℕ). Leads ds (get_or xs j 0) (get_or xs m 0)) end one
line_leads es l n ds adds g low within j (suc k) short =
    let xs = get_or l.checks g [] in
    let next : j + 1 + suc k ≡ j + 1 + k + 1 = omega arith in
    let inside = within (get_or xs (j + 1 + k + 1) 0) (Contains-get_or xs (j + 1 + k + 1) 0 (omega arith)) in
    let size : length ds ≡ length es = adds.size ∙ length-replicate (length es) [] in
    let edge : IsEdge ds (get_or xs (j + 1 + k) 0) (get_or xs (j + 1 + k + 1) 0) =
    (right_edge es l n ds adds (get_or xs (j + 1 + k) 0) (get_or xs (j + 1 + k + 1) 0)).1 (inr (g, low, inr (inl (j + 1 + k, omega arith, refl, refl)))) in
    let one : Leads ds (get_or xs (j + 1 + k) 0) (get_or xs (j + 1 + k + 1) 0) =
    (get_or xs (j + 1 + k + 1) 0, edge, omega (arith, inside, size), here (omega (arith, inside, size))) in
    subst (λ (m : ℕ). Leads ds (get_or xs j 0) (get_or xs m 0)) (sym next)
    (leads_on ds (get_or xs j 0) (get_or xs (j + 1 + k) 0) (get_or xs (j + 1 + k + 1) 0) (line_leads es l n ds adds g low within j k (omega arith)) one)

-- from a check to a load by the last check before its end
pub check_leads : (es : List (List ℕ)) (l : Lists) (n : ℕ) (ds : List (List ℕ)) → AreRightBefore es l n ds → (g : ℕ) → g < n → ((p : ℕ) → Contains (get_or l.checks g []) p → p < length es)
    → (j e q : ℕ) → j < e → q < length es → Contains (get_or l.loads g []) q → IsEnd es (get_or l.checks g []) q e → Leads ds (get_or (get_or l.checks g []) j 0) q
check_leads es l n ds adds g low within j e q first inside c end =
    let xs = get_or l.checks g [] in
    let next : e ≡ e - 1 + 1 = omega arith in
    let size : length ds ≡ length es = adds.size ∙ length-replicate (length es) [] in
    let edge : IsEdge ds (get_or xs (e - 1) 0) q =
    (right_edge es l n ds adds (get_or xs (e - 1) 0) q).1 (inr (g, low, inr (inr (c, (e - 1, omega (arith, end.within), refl, subst (λ (m : ℕ). IsEnd es xs q m) next end))))) in
    let one : Leads ds (get_or xs (e - 1) 0) q = (q, edge, omega (arith, size), here (omega (arith, size))) in
    ⊎_elim
    (λ (less : j < e - 1).
    let at : j + 1 + (e - 1 - (j + 1)) ≡ e - 1 = omega arith in
    leads_on ds (get_or xs j 0) (get_or xs (e - 1) 0) q
    (subst (λ (m : ℕ). Leads ds (get_or xs j 0) (get_or xs m 0)) at (line_leads es l n ds adds g low within j (e - 1 - (j + 1)) (omega (arith, end.within)))) one)
    (λ (over : e - 1 ≤ j). let same : e - 1 ≡ j = omega arith in subst (λ (m : ℕ). Leads ds (get_or xs m 0) q) same one)
    (cases_lt j (e - 1))
