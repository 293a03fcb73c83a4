-- Moves under the places of their destinations.
use Rattle.std.proofs.Common.{◌≡◌, ℕ, ◌<◌, ◌≤◌, refl, ap, sym, ◌∙◌, subst, arith, ◌⊎◌, inl, inr, List, [], ◌∷◌, Option, Some, None, Bool, true, false, cond, ◌==◌, eq-eqb, ne_eqb}
use Rattle.std.specs.List.{AllByRecursion, find}
use Rattle.std.specs.List.Sorted.{IsStrictlySortedBy}
use Rattle.std.specs.Map.{keys_of, values_of, lookup, remove_entry}
use Rattle.std.specs.Ordering.{nat_cmp, is_eq, match_ordering}
use Rattle.std.specs.declared.cmp.Ordering.{Ordering}
use Rattle.std.specs.declared.cmp.Ordering.TheVariants.{Less, Equal, Greater}
use Rattle.std.specs.BTreeMap.{BTreeMap, get, is_at, insert_entry}
use Rattle.std.proofs.lemmas.Bool.{cases_eq}
use Rattle.std.proofs.lemmas.Bool.Decides.{nat_tests}
use Rattle.std.proofs.lemmas.Cmp.{ranked, nat_cmp_total}
use Rattle.std.proofs.lemmas.List.Elements.{recursion_from_All}
use Rattle.std.proofs.lemmas.Map.{lookup-none}
use Rattle.std.proofs.lemmas.Map.Entries.{none_below_head}
use Rattle.std.proofs.lemmas.Map.Keys.{sorted_head, sorted_tail}
use Rattle.std.proofs.lemmas.Map.Views.{All-found}
use Rattle.bk_shuffle.specs.Sequence.{Move, place_of, without}
use Rattle.bk_shuffle.specs.Left.{IsAtItsPlace}

pub hit_at : (k x : ℕ) → is_eq (nat_cmp k x) ≡ (x == k)
hit_at k x = grind (arith, nat_tests)

pub hit_same : (k x : ℕ) → x ≡ k → is_at (nat_cmp k) x ≡ true
hit_same k x e = hit_at k x ∙ eq-eqb x k e

pub hit_other : (k x : ℕ) → ¬ (x ≡ k) → is_at (nat_cmp k) x ≡ false
hit_other k x n = hit_at k x ∙ ne_eqb x k n

-- a move is put at its place

put_step : (k : ℕ) (v : Move) (e : ℕ × Move) (es rest : List (ℕ × Move)) → IsAtItsPlace (k, v) → IsAtItsPlace e → AllByRecursion IsAtItsPlace es → AllByRecursion IsAtItsPlace rest →
    (o : Ordering) → nat_cmp k e.0 ≡ o → AllByRecursion IsAtItsPlace (match_ordering o ((k, v) ∷ e ∷ es) ((e.0, v) ∷ es) (e ∷ rest))
put_step k v e es rest p q a b Less r = (p, (q, a))
put_step k v e es rest p q a b Equal r =
    let P : ℕ → Type 0 = λ n. IsAtItsPlace (n, v) in
    (subst P (ranked k e.0 Equal (sym r)) p, a)
put_step k v e es rest p q a b Greater r = (q, b)

pub put_placed : (k : ℕ) (v : Move) (es : List (ℕ × Move)) → IsAtItsPlace (k, v) → AllByRecursion IsAtItsPlace es → AllByRecursion IsAtItsPlace (insert_entry nat_cmp es k v)
put_placed k v [] p a = (p, a)
put_placed k v (e ∷ es) p (q, a) = put_step k v e es (insert_entry nat_cmp es k v) p q a (put_placed k v es p a) (nat_cmp k e.0) refl

pub put_first : (k : ℕ) (v : Move) (es : List (ℕ × Move)) → IsStrictlySortedBy nat_cmp (k ∷ keys_of es) → insert_entry nat_cmp es k v ≡ (k, v) ∷ es
put_first k v [] s = refl
put_first k v (e ∷ es) s =
    let h : nat_cmp k e.0 ≡ Less = (sorted_head nat_cmp k (keys_of (e ∷ es)) s).0 in
    ap (λ o. match_ordering o ((k, v) ∷ e ∷ es) ((e.0, v) ∷ es) (e ∷ insert_entry nat_cmp es k v)) h

-- a move is taken out

out_step : (e : ℕ × Move) (es rest : List (ℕ × Move)) → IsAtItsPlace e → AllByRecursion IsAtItsPlace es → AllByRecursion IsAtItsPlace rest → (b : Bool) → AllByRecursion IsAtItsPlace (cond b es (e ∷ rest))
out_step e es rest p a r true = a
out_step e es rest p a r false = (p, r)

pub out_placed : (test : ℕ → Bool) (es : List (ℕ × Move)) → AllByRecursion IsAtItsPlace es → AllByRecursion IsAtItsPlace (remove_entry test es)
out_placed test [] a = a
out_placed test (e ∷ es) (p, a) = out_step e es (remove_entry test es) p a (out_placed test es a) (test e.0)

without_step : (e : ℕ × Move) (es rest : List (ℕ × Move)) (xs : List Move) → values_of rest ≡ xs → (b : Bool) → values_of (cond b es (e ∷ rest)) ≡ cond b (values_of es) (e.1 ∷ xs)
without_step e es rest xs h true = refl
without_step e es rest xs h false = ap (λ ys. e.1 ∷ ys) h

pub values_out : (k : ℕ) (es : List (ℕ × Move)) → AllByRecursion IsAtItsPlace es → values_of (remove_entry (is_at (nat_cmp k)) es) ≡ without k (values_of es)
values_out k [] a = refl
values_out k (e ∷ es) (p, a) =
    let h : (place_of e.1.1 == k) ≡ is_at (nat_cmp k) e.0 = ap (λ n. n == k) p.0 ∙ sym (hit_at k e.0) in
    let P : Bool → Type 0 = λ b. values_of (cond (is_at (nat_cmp k) e.0) es (e ∷ remove_entry (is_at (nat_cmp k)) es)) ≡ cond b (values_of es) (e.1 ∷ without k (values_of es)) in
    subst P (sym h) (without_step e es (remove_entry (is_at (nat_cmp k)) es) (without k (values_of es)) (values_out k es a) (is_at (nat_cmp k) e.0))

-- what is found

found_step : (k : ℕ) (m : Move) (e : ℕ × Move) (o : Option Move) → IsAtItsPlace e → (o ≡ Some m → IsAtItsPlace (k, m)) → (e.0 ≡ k) ⊎ (e.0 ≡ k → ⊥) → cond (is_at (nat_cmp k) e.0) (Some e.1) o ≡ Some m → IsAtItsPlace (k, m)
found_step k m e o p rest (inl same) h =
    let P : Bool → Type 0 = λ b. cond b (Some e.1) o ≡ Some m in
    let r : Some e.1 ≡ Some m = subst P (hit_same k e.0 same) h in
    let q : e.1 ≡ m = cc in
    let Q : Move → Type 0 = λ x. IsAtItsPlace (k, x) in
    let R : ℕ → Type 0 = λ n. IsAtItsPlace (n, e.1) in
    subst Q q (subst R same p)
found_step k m e o p rest (inr n) h =
    let P : Bool → Type 0 = λ b. cond b (Some e.1) o ≡ Some m in
    rest (subst P (hit_other k e.0 n) h)

pub found_placed : (k : ℕ) (m : Move) (es : List (ℕ × Move)) → AllByRecursion IsAtItsPlace es → lookup (is_at (nat_cmp k)) es ≡ Some m → IsAtItsPlace (k, m)
found_placed k m [] a h = absurd cc
found_placed k m (e ∷ es) (p, a) h = found_step k m e (lookup (is_at (nat_cmp k)) es) p (λ r. found_placed k m es a r) (cases_eq e.0 k) h

-- the first move that passes a test is the one at the least place

none_below : (k : ℕ) (e : ℕ × Move) (es : List (ℕ × Move)) → IsStrictlySortedBy nat_cmp (keys_of (e ∷ es)) → k < e.0 → lookup (is_at (nat_cmp k)) (e ∷ es) ≡ None
none_below k e es s l =
    let h : nat_cmp k e.0 ≡ Less = grind (arith, nat_tests) in
    lookup-none (is_at (nat_cmp k)) (e ∷ es) (none_below_head nat_cmp_total k e es s h)

find_step : (ok : Move → Bool) (k : ℕ) (m : Move) (e : ℕ × Move) (es : List (ℕ × Move)) → IsStrictlySortedBy nat_cmp (keys_of (e ∷ es)) → ok m ≡ true → (ok e.1 ≡ true → k ≤ e.0) →
    (lookup (is_at (nat_cmp k)) es ≡ Some m → find ok (values_of es) ≡ Some m) → lookup (is_at (nat_cmp k)) (e ∷ es) ≡ Some m → (e.0 ≡ k) ⊎ (e.0 ≡ k → ⊥) →
    (b : Bool) → ok e.1 ≡ b → cond b (Some e.1) (find ok (values_of es)) ≡ Some m
find_step ok k m e es s o low rest h (inl same) b u =
    let P : Bool → Type 0 = λ t. cond t (Some e.1) (lookup (is_at (nat_cmp k)) es) ≡ Some m in
    let r : Some e.1 ≡ Some m = subst P (hit_same k e.0 same) h in
    let q : e.1 ≡ m = cc in
    let t : true ≡ b = sym o ∙ (ap ok (sym q) ∙ u) in
    let Q : Bool → Type 0 = λ t. cond t (Some e.1) (find ok (values_of es)) ≡ Some m in
    subst Q t r
find_step ok k m e es s o low rest h (inr n) true u =
    let l : k < e.0 = (let a = low u in omega (arith, a, n)) in
    let z = none_below k e es s l in
    absurd cc
find_step ok k m e es s o low rest h (inr n) false u =
    let P : Bool → Type 0 = λ t. cond t (Some e.1) (lookup (is_at (nat_cmp k)) es) ≡ Some m in
    rest (subst P (hit_other k e.0 n) h)

pub find_least : (ok : Move → Bool) (k : ℕ) (m : Move) (es : List (ℕ × Move)) → IsStrictlySortedBy nat_cmp (keys_of es) → lookup (is_at (nat_cmp k)) es ≡ Some m → ok m ≡ true →
    AllByRecursion (λ e. ok e.1 ≡ true → k ≤ e.0) es → find ok (values_of es) ≡ Some m
find_least ok k m [] s h o a = absurd cc
find_least ok k m (e ∷ es) s h o (low, a) =
    find_step ok k m e es s o low (λ r. find_least ok k m es (sorted_tail nat_cmp e.0 (keys_of es) s) r o a) h (cases_eq e.0 k) (ok e.1) refl

pub find_none : (ok : Move → Bool) (es : List (ℕ × Move)) → AllByRecursion (λ e. ok e.1 ≡ false) es → find ok (values_of es) ≡ None
find_none ok [] a = refl
find_none ok (e ∷ es) (h, a) =
    let P : Bool → Type 0 = λ b. cond b (Some e.1) (find ok (values_of es)) ≡ None in
    subst P (sym h) (find_none ok es a)

-- facts of each entry

pub each_both : {A : Type 0} (P Q R : A → Type 0) (es : List A) → ((e : A) → P e → Q e → R e) → AllByRecursion P es → AllByRecursion Q es → AllByRecursion R es
each_both P Q R [] f a b = b
each_both P Q R (e ∷ es) f (p, a) (q, b) = (f e p q, each_both P Q R es f a b)

pub each_found : (left : BTreeMap ℕ Move) → IsStrictlySortedBy nat_cmp (keys_of left.entries) → AllByRecursion (λ e. get nat_cmp left e.0 ≡ Some e.1) left.entries
each_found left s = recursion_from_All (λ e. get nat_cmp left e.0 ≡ Some e.1) left.entries (All-found nat_cmp_total left s)
