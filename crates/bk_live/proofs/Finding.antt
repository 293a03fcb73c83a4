-- What stands in a row.
use Rattle.std.proofs.Common.{◌≡◌, ◌∙◌, sym, refl, ap, subst, ℕ, zero, suc, ◌<◌, ◌≤◌, ◌⊎◌, ◌==◌, Bool, cond, List, [], ◌∷◌, length, get_or, Option, None, Some, Result, Ok, Err, IfErr, IfOk, inl, inr, ⊎_elim, arith}
use Rattle.std.specs.List.{Contains, find}
use Rattle.std.specs.List.Sorted.{IsBinarySearchResult, IsNonDecreasingBy, IsSearchInRange}
use Rattle.std.specs.Option.{option_map}
use Rattle.std.specs.Ordering.{nat_cmp, ordering_index}
use Rattle.std.proofs.lemmas.Bool.{cases_eq, cases_lt, eq-eqb, ne_eqb}
use Rattle.std.proofs.lemmas.Bool.Decides.{nat_tests}
use Rattle.std.proofs.lemmas.Cmp.{ranked}
use Rattle.std.proofs.lemmas.List.{get_or_default, get_or-map, length-map}
use Rattle.std.proofs.lemmas.List.Elements.{Contains-get_or}
use Rattle.bk_live.specs.declared.rows.LiveValue.{LiveValue}
use Rattle.bk_live.specs.Rows.{HasNot, IsRising, StandsIn, distance_in, live_value, values_of}

-- the first of a row with the number
abbrev pub IsFoundIn : List LiveValue → ℕ → Option LiveValue → Type 0
IsFoundIn row n None = (l : LiveValue) → Contains row l → ¬ (l.value ≡ n)
IsFoundIn row n (Some l) = Contains row l × (l.value ≡ n)

none_in : (l : LiveValue) → Contains [] l → ⊥
none_in l (k, b, e) = absurd (omega arith)

in_more : (x : LiveValue) (row : List LiveValue) (l : LiveValue) → Contains (x ∷ row) l → (x ≡ l) ⊎ Contains row l
in_more x row l (zero, b, e) = inl e
in_more x row l (suc k, b, e) = inr (k, omega arith, e)

pub found_in : (row : List LiveValue) (n : ℕ) → IsFoundIn row n (find (λ l. l.value == n) row)
found_in [] n = λ l c. absurd (none_in l c)
found_in (x ∷ row) n = ⊎_elim
    (λ (same : x.value ≡ n).
    subst (λ (b : Bool). IsFoundIn (x ∷ row) n (cond b (Some x) (find (λ l. l.value == n) row))) (sym (eq-eqb x.value n same)) ((0, omega arith, refl), same))
    (λ (apart : x.value ≡ n → ⊥).
    subst (λ (b : Bool). IsFoundIn (x ∷ row) n (cond b (Some x) (find (λ l. l.value == n) row))) (sym (ne_eqb x.value n apart)) (later (find (λ l. l.value == n) row) (found_in row n) apart))
    (cases_eq x.value n)
  where
    later : (o : Option LiveValue) → IsFoundIn row n o → (x.value ≡ n → ⊥) → IsFoundIn (x ∷ row) n o
    later None none apart = λ l c. ⊎_elim (λ (first : x ≡ l). λ e. apart (ap (λ (y : LiveValue). y.value) first ∙ e)) (λ rest. none l rest) (in_more x row l c)
    later (Some l) ((k, b, e), same) apart = ((suc k, omega arith, e), same)

-- two of a rising row with one number are one
pub rising_alone : (row : List LiveValue) (k l : LiveValue) → IsRising row → Contains row k → Contains row l → k.value ≡ l.value → k ≡ l
rising_alone row k l rising (i, a, at) (j, b, there) same = ⊎_elim
    (λ (low : i < j).
    let less : (get_or row i k).value < (get_or row j k).value = rising i j k low b in
    let first : (get_or row i k).value ≡ k.value = ap (λ (y : LiveValue). y.value) at in
    let second : (get_or row j k).value ≡ l.value = ap (λ (y : LiveValue). y.value) (get_or_default row j k l b ∙ there) in
    absurd (omega arith))
    (λ (high : j ≤ i). ⊎_elim
    (λ (low : j < i).
    let less : (get_or row j k).value < (get_or row i k).value = rising j i k low a in
    let first : (get_or row i k).value ≡ k.value = ap (λ (y : LiveValue). y.value) at in
    let second : (get_or row j k).value ≡ l.value = ap (λ (y : LiveValue). y.value) (get_or_default row j k l b ∙ there) in
    absurd (omega arith))
    (λ (low : i ≤ j).
    let one : i ≡ j = omega arith in
    sym at ∙ (ap (λ m. get_or row m k) one ∙ (get_or_default row j k l b ∙ there)))
    (cases_lt j i))
    (cases_lt i j)

-- what the rows are as lists of numbers
pub to_values : (row : List LiveValue) (l : LiveValue) → Contains row l → Contains (values_of row) l.value
to_values row l (k, b, e) =
    (k, omega (arith, length-map row (λ (x : LiveValue). x.value)), get_or-map (λ (x : LiveValue). x.value) row k l l.value b ∙ ap (λ (x : LiveValue). x.value) e)

pub of_values : (row : List LiveValue) (n : ℕ) → Contains (values_of row) n → (l : LiveValue) × Contains row l × (l.value ≡ n)
of_values row n (k, b, e) =
    let inside : k < length row = omega (arith, length-map row (λ (x : LiveValue). x.value)) in
    let zero_value : LiveValue = live_value n 0 in
    (get_or row k zero_value, Contains-get_or row k zero_value inside, sym (get_or-map (λ (x : LiveValue). x.value) row k zero_value n inside) ∙ e)

-- the distance of what stands in a row
pub distance_at : (row : List LiveValue) (n i : ℕ) (l : LiveValue) → IsRising row → StandsIn row n i → distance_in row n ≡ Some (get_or row i l).distance
distance_at row n i l rising (inside, same) = go (find (λ k. k.value == n) row) (found_in row n)
  where
    here : Contains row (get_or row i l)
    here = Contains-get_or row i l inside

    go : (o : Option LiveValue) → IsFoundIn row n o → option_map (λ k. k.distance) o ≡ Some (get_or row i l).distance
    go None none = absurd (none (get_or row i l) here (same l))
    go (Some k) (c, is) = ap (λ (x : LiveValue). Some x.distance) (rising_alone row k (get_or row i l) rising c here (is ∙ sym (same l)))

pub distance_none : (row : List LiveValue) (n : ℕ) → HasNot row n → distance_in row n ≡ None
distance_none row n none = go (find (λ k. k.value == n) row) (found_in row n)
  where
    go : (o : Option LiveValue) → IsFoundIn row n o → option_map (λ k. k.distance) o ≡ None
    go None without = refl
    go (Some k) (c, is) = absurd (none k c is)

-- comparisons with a number rise along a rising row
comparisons_rise : (row : List LiveValue) (n : ℕ) → IsRising row → IsNonDecreasingBy (λ l. ordering_index (nat_cmp l.value n)) row
comparisons_rise row n rising i j d low inside =
    let rise : (get_or row i d).value ≤ (get_or row j d).value = ⊎_elim
    (λ (less : i < j). let l : (get_or row i d).value < (get_or row j d).value = rising i j d less inside in omega arith)
    (λ (more : j ≤ i). let same : i ≡ j = omega arith in let e : (get_or row i d).value ≡ (get_or row j d).value = ap (λ k. (get_or row k d).value) same in omega arith)
    (cases_lt i j) in
    by_rank (get_or row i d).value (get_or row j d).value n rise
  where
    by_rank : (a b c : ℕ) → a ≤ b → ordering_index (nat_cmp a c) ≤ ordering_index (nat_cmp b c)
    by_rank a b c l = grind (arith, nat_tests)

-- where a binary search ends
pub searched : (row : List LiveValue) (n : ℕ) (r : Result ℕ ℕ) → IsRising row → IsSearchInRange r (length row) → IsBinarySearchResult (λ l. nat_cmp l.value n) row r
    → record { found : IfOk r (StandsIn row n); absent : IfErr r (λ at. HasNot row n) }
searched row n (Ok i) rising inside equal = record { found = (inside, λ l. ranked _ n _ (sym (equal l))); absent = tt }
searched row n (Err i) rising inside parted = record {
  found = tt;
  absent = λ l (k, b, e) same.
      let at : (get_or row k l).value ≡ n = ap (λ (x : LiveValue). x.value) e ∙ same in
      ⊎_elim
      (λ (low : k < i). let less : (get_or row k l).value < n = ranked _ n _ (sym ((parted (comparisons_rise row n rising)).0 k l (omega arith) low)) in absurd (omega arith))
      (λ (high : i ≤ k). let more : n < (get_or row k l).value = ranked _ n _ (sym ((parted (comparisons_rise row n rising)).1 k l high b)) in absurd (omega arith))
      (cases_lt k i);
}
