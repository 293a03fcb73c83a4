-- A generated package: each of its functions has a name of its own, and such names may stand in an object.
use Rattle.std.proofs.Common.{◌≡◌, ◌≢◌, ℕ, zero, suc, ◌+◌, ◌*◌, ◌%◌, ◌<◌, ◌≤◌, ◌^◌, List, [], ◌∷◌, ◌++◌, length, map, drop, get_or, ap, ◌∙◌, sym, subst, refl, arith, All, AllPairs, Contains, ⊎_elim, codes, decimal, sum_by}
use Rattle.std.proofs.lemmas.Bool.{cases_lt}
use Rattle.std.proofs.lemmas.Fmt.{decimal_injective, decimal_by_steps, length-decimal-le}
use Rattle.std.proofs.lemmas.List.{get_or_append_left, get_or_push, length_push, length-map, map-append}
use Rattle.std.proofs.lemmas.List.Elements.{All-push}
use Rattle.std.proofs.lemmas.List.Sums.{sum_by_push}
use Rattle.bk_func.specs.Records.{FuncRecord}
use Rattle.bk_dump.specs.Generate.{generated, names_to, functions_to, drawn_function}
use Rattle.bk_link.specs.Conditions.{IsNamed, func_places}

-- the name of the function at a place
abbrev name_at : ℕ → List ℕ
name_at i = codes "f" ++ decimal i

abbrev place : FuncRecord → ℕ
place f = f.name

count_names : (k : ℕ) → length (names_to k) ≡ k
unfolding names_to
count_names zero = refl
count_names (suc k) = let before = count_names k in length_push (names_to k) (name_at k) ∙ omega arith

name_in : (k i : ℕ) (d : List ℕ) → i < k → get_or (names_to k) i d ≡ name_at i
unfolding names_to
name_in zero i d l = absurd (omega arith)
name_in (suc k) i d l =
    let long = count_names k in
    ⊎_elim
    (λ below. get_or_append_left (names_to k) (name_at k ∷ []) d i (omega arith) ∙ name_in k i d below)
    (λ past.
    let last : i ≡ k = omega arith in
    ap (λ j. get_or (names_to k ++ name_at k ∷ []) j d) last ∙ get_or_push (names_to k) (name_at k) d k long ∙ ap name_at (sym last))
    (cases_lt i k)

count_functions : (k s : ℕ) → length (functions_to s k).0 ≡ k
unfolding functions_to
count_functions zero s = refl
count_functions (suc k) s =
    let before = count_functions k s in
    length_push (functions_to s k).0 (drawn_function k (functions_to s k).1).0 ∙ omega arith

place_of_drawn : (i s : ℕ) → (drawn_function i s).0.name ≡ i
unfolding drawn_function
place_of_drawn i s = refl

place_in : (k s i d : ℕ) → i < k → get_or (map place (functions_to s k).0) i d ≡ i
unfolding functions_to
place_in zero s i d l = absurd (omega arith)
place_in (suc k) s i d l =
    let fs = (functions_to s k).0 in
    let f = (drawn_function k (functions_to s k).1).0 in
    let long : length (map place fs) ≡ k = length-map fs place ∙ count_functions k s in
    ap (λ ns. get_or ns i d) (map-append place fs (f ∷ []))
    ∙ ⊎_elim
    (λ below. get_or_append_left (map place fs) (f.name ∷ []) d i (omega arith) ∙ place_in k s i d below)
    (λ past.
    let last : i ≡ k = omega arith in
    ap (λ j. get_or (map place fs ++ f.name ∷ []) j d) last ∙ get_or_push (map place fs) f.name d k long ∙ place_of_drawn k (functions_to s k).1 ∙ sym last)
    (cases_lt i k)

count_places : (n : ℕ) → length (func_places (generated n)) ≡ n
count_places n = length-map (functions_to n n).0 place ∙ count_functions n n

places_rise : (n : ℕ) → AllPairs (λ x y. x < y) (func_places (generated n))
places_rise n i j d l within =
    let long = count_places n in
    let low = place_in n n i d (omega arith) in
    let high = place_in n n j d (omega arith) in
    omega arith

places_within : (n : ℕ) → All (λ x. x < length (names_to n)) (func_places (generated n))
places_within n k d l =
    let long = count_places n in
    let names = count_names n in
    let is = place_in n n k d (omega arith) in
    omega arith

names_differ : (n : ℕ) → n ≤ 4096 → AllPairs (λ x y. x ≢ y) (names_to n)
names_differ n h i j d l within e =
    let long = count_names n in
    let same : name_at i ≡ name_at j = sym (name_in n i d (omega arith)) ∙ e ∙ name_in n j d (omega arith) in
    let digits : decimal i ≡ decimal j = ap (drop 1) same in
    let is : i ≡ j = decimal_injective i j (omega arith) (omega arith) digits in
    omega arith

behind : (b : ℕ) (bs : List ℕ) → 0 < b → All (λ c. 0 < c) bs → All (λ c. 0 < c) (b ∷ bs)
behind b bs low h zero d l = low
behind b bs low h (suc k) d l = h k d (omega arith)

positive_digits : (n : ℕ) → n < 2 ^ 64 → All (λ c. 0 < c) (decimal n)
positive_digits = decimal_by_steps
    (λ n ds. All (λ c. 0 < c) ds)
    (λ n l. behind (48 + n) [] (omega arith) (λ k d m. absurd (omega arith)))
    (λ n ds l h. All-push (λ c. 0 < c) ds (48 + n % 10) h (omega arith))

no_zero : (i : ℕ) → i < 2 ^ 64 → Contains (name_at i) 0 → ⊥
no_zero i l c =
    let positive = behind 102 (decimal i) (omega arith) (positive_digits i l) c.0 0 c.1 in
    let is = c.2 in
    omega arith

names_clean : (n : ℕ) → n ≤ 4096 → All (λ m. Contains m 0 → ⊥) (names_to n)
names_clean n h k d l c =
    let long = count_names n in
    no_zero k (omega arith) (subst (λ m. Contains m 0) (name_in n k d (omega arith)) c)

names_short : (k : ℕ) → k ≤ 4096 → sum_by (λ m. length m) (names_to k) ≤ 5 * k
unfolding names_to
names_short zero h = omega arith
names_short (suc k) h =
    let digits = length-decimal-le 4 k (omega arith) (omega arith) (omega arith) in
    let more = sum_by_push (λ (m : List ℕ). length m) (names_to k) (name_at k) in
    let before = names_short k (omega arith) in
    omega arith

pub generated_is_named : (n : ℕ) → n ≤ 4096 → IsNamed (generated n)
generated_is_named n h =
    let funcs = count_functions n n in
    let names = count_names n in
    record {
      few_funcs = omega arith;
      few_vars = omega arith;
      counted = omega arith;
      funcs_rise = places_rise n;
      vars_rise = λ i j d l within. absurd (omega arith);
      funcs_within = places_within n;
      vars_within = λ k d l. absurd (omega arith);
      apart = λ k d l c. absurd (omega (arith, c.1));
      differ = names_differ n h;
      clean = names_clean n h;
      short = omega (arith, names_short n h);
    }
