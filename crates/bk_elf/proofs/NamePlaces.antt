-- Names and where they begin.
use Rattle.std.proofs.Common.{◌≡◌, ◌≢◌, ℕ, zero, suc, ◌+◌, ◌-◌, ◌<◌, ◌==◌, Bool, true, false, ◌&&◌, ◌||◌, not, nat_lt, List, [], ◌∷◌, ◌++◌, length, drop, slice_range, slice_index_or, refl, sym, ap, ◌∙◌, arith}
use Rattle.std.proofs.lemmas.List.{length-append, length-drop, length-take-le, append_assoc, take_at, drop_at}
use Rattle.std.proofs.lemmas.Bool.{and_parts, and_from, ltb-true, lt-ltb, eqb-true, eq-eqb, ne_eqb, not-true}
use Rattle.std.proofs.lemmas.Cmp.{nat_list_eq_equiv}
use Rattle.std.proofs.lemmas.Map.Made.{distinct_count-from_IsDistinct, IsDistinct-from_count}
use Rattle.std.proofs.lemmas.Str.{IsUtf8-from_is_utf8, is_utf8-from_IsUtf8}
use Rattle.std.specs.List.{AllByRecursion, list_all, flat_map, Contains, IsDistinct}
use Rattle.std.specs.Set.{distinct_count}
use Rattle.std.specs.Str.{IsUtf8, is_utf8, bytes_eq}
use Rattle.bk_elf.specs.Lists.{rises_from, has_zero}
use Rattle.bk_elf.specs.Tables.{ended}
use Rattle.bk_elf.specs.Contents.{name_bytes}
use Rattle.bk_elf.specs.Object.{name_places}
use Rattle.bk_elf.specs.Loading.{begin_at_one, are_places, name_end, names_at, are_distinct}

-- names cut at places that rise stand at these places
places_back : (bytes : List ℕ) (size p : ℕ) (places : List ℕ) → length bytes ≡ size → rises_from p places ≡ true → list_all (λ x. nat_lt x size) (p ∷ places) ≡ true
    → name_places p (names_at bytes size (p ∷ places)) ≡ p ∷ places
unfolding names_at
places_back bytes size p [] whole up all = refl
places_back bytes size p (q ∷ places) whole up all =
    let rise = and_parts (nat_lt p q) (rises_from q places) up in
    let over = ltb-true p q rise.0 in
    let parts = and_parts (nat_lt p size) (list_all (λ x. nat_lt x size) (q ∷ places)) all in
    let next = and_parts (nat_lt q size) (list_all (λ x. nat_lt x size) places) parts.1 in
    let below = ltb-true q size next.0 in
    let len : length (slice_range bytes p (q - 1)) ≡ q - 1 - p = length-take-le (q - 1 - p) (drop p bytes) (omega (arith, length-drop p bytes)) in
    let step : p + length (slice_range bytes p (q - 1)) + 1 ≡ q = omega arith in
    rw step (ap (λ xs. p ∷ xs) (places_back bytes size q places whole rise.1 parts.1))

pub names_back : (bytes : List ℕ) (size : ℕ) (places : List ℕ) → length bytes ≡ size → are_places size places ≡ true
    → name_places 1 (names_at bytes size places) ≡ places
unfolding names_at
names_back bytes size [] whole h = refl
names_back bytes size (p ∷ places) whole h =
    let parts = and_parts (begin_at_one (p ∷ places)) (list_all (λ x. nat_lt x size) (p ∷ places)) h in
    let first = and_parts (p == 1) (rises_from 1 places) parts.0 in
    let e = eqb-true p 1 first.0 in
    let all = rw e at parts.1 in
    rw e (places_back bytes size 1 places whole first.1 all)

-- where a name ends, by the names after it
end_is : (size place : ℕ) (ns : List (List ℕ)) → size ≡ place + length (flat_map ended ns) → name_end size (name_places place ns) ≡ place - 1
end_is size place [] e = let h : size ≡ place = omega arith in ap (λ n. n - 1) h
end_is size place (n ∷ ns) e = refl

ended_size : (n : List ℕ) (ns : List (List ℕ)) → length (flat_map ended (n ∷ ns)) ≡ length n + 1 + length (flat_map ended ns)
ended_size n ns =
    let a = length-append (ended n) (flat_map ended ns) in
    let b = length-append n (0 ∷ []) in
    omega arith

-- names are cut at the places where they begin
names_forth : (front : List ℕ) (size place : ℕ) (ns : List (List ℕ)) → length front ≡ place → size ≡ place + length (flat_map ended ns)
    → names_at (front ++ flat_map ended ns) size (name_places place ns) ≡ ns
unfolding names_at
names_forth front size place [] f e = refl
names_forth front size place (n ∷ ns) f e =
    let rest = flat_map ended ns in
    let all = ended_size n ns in
    let end = end_is size (place + length n + 1) ns (omega arith) in
    let flat : front ++ (ended n ++ rest) ≡ (front ++ ended n) ++ rest = sym (append_assoc front (ended n) rest) in
    let cut : front ++ (ended n ++ rest) ≡ front ++ (n ++ (0 ∷ rest)) = ap (λ xs. front ++ xs) (append_assoc n (0 ∷ []) rest) in
    let size' : place + length n + 1 - 1 - place ≡ length n = omega arith in
    let name : slice_range (front ++ (ended n ++ rest)) place (place + length n + 1 - 1) ≡ n =
    rw (cut, drop_at front (n ++ (0 ∷ rest)) place f, size') (take_at n (0 ∷ rest) (length n) refl) in
    let len : length (front ++ ended n) ≡ place + length n + 1 =
    length-append front (ended n) ∙ rw (f, length-append n (0 ∷ [])) (omega arith) in
    let more = names_forth (front ++ ended n) size (place + length n + 1) ns len (omega arith) in
    let others = ap (λ bytes. names_at bytes size (name_places (place + length n + 1) ns)) flat ∙ more in
    rw (end, name) (ap (λ xs. n ∷ xs) others)

pub names_read_back : (names : List (List ℕ)) → names_at (name_bytes names) (length (name_bytes names)) (name_places 1 names) ≡ names
unfolding name_bytes
names_read_back names = names_forth (0 ∷ []) (length (0 ∷ flat_map ended names)) 1 names refl (omega arith)

rises_places : (low place : ℕ) (ns : List (List ℕ)) → low < place → rises_from low (name_places place ns) ≡ true
rises_places low place [] lt = refl
rises_places low place (n ∷ ns) lt = rw (lt-ltb low place lt) (rises_places place (place + length n + 1) ns (omega arith))

below_size : (size place : ℕ) (ns : List (List ℕ)) → size ≡ place + length (flat_map ended ns) → list_all (λ x. nat_lt x size) (name_places place ns) ≡ true
below_size size place [] e = refl
below_size size place (n ∷ ns) e =
    let all = ended_size n ns in
    rw (lt-ltb place size (omega arith)) (below_size size (place + length n + 1) ns (omega arith))

begins : (names : List (List ℕ)) → begin_at_one (name_places 1 names) ≡ true
begins [] = refl
begins (n ∷ ns) = rises_places 1 (1 + length n + 1) ns (omega arith)

pub are_places_forth : (names : List (List ℕ)) → are_places (length (name_bytes names)) (name_places 1 names) ≡ true
unfolding name_bytes
are_places_forth names =
    and_from (begin_at_one (name_places 1 names)) (list_all (λ x. nat_lt x (length (0 ∷ flat_map ended names))) (name_places 1 names)) (begins names)
    (below_size (length (0 ∷ flat_map ended names)) 1 names (omega arith))

or_right : (a b : Bool) → (a || b) ≡ false → b ≡ false
or_right true b h = cc
or_right false b h = h

-- names that differ, as a test and as a fact
pub distinct_forth : (names : List (List ℕ)) → IsDistinct bytes_eq names → are_distinct names ≡ true
distinct_forth names h = eq-eqb (distinct_count bytes_eq names) (length names) (distinct_count-from_IsDistinct nat_list_eq_equiv names h)

pub distinct_back : (names : List (List ℕ)) → are_distinct names ≡ true → IsDistinct bytes_eq names
distinct_back names h = IsDistinct-from_count nat_list_eq_equiv names (eqb-true (distinct_count bytes_eq names) (length names) h)

no_zero_forth : (n : List ℕ) → (Contains n 0 → ⊥) → has_zero n ≡ false
no_zero_forth [] h = refl
no_zero_forth (x ∷ xs) h =
    let other : x ≢ 0 = λ e. h (0, omega arith, e) in
    rw (ne_eqb x 0 other) (no_zero_forth xs (λ k. h (suc k.0, omega (arith, k.1), k.2)))

zero_found : (n : List ℕ) (k : ℕ) → k < length n → slice_index_or n k 0 ≡ 0 → has_zero n ≡ false → ⊥
zero_found [] k lt is h = absurd (omega arith)
zero_found (x ∷ xs) zero lt is h = let k = rw (eq-eqb x 0 is) at h in cc
zero_found (x ∷ xs) (suc k) lt is h = zero_found xs k (omega arith) is (or_right (x == 0) (has_zero xs) h)

no_zero_back : (n : List ℕ) → has_zero n ≡ false → Contains n 0 → ⊥
no_zero_back n h k = zero_found n k.0 k.1 k.2 h

-- each name is a text without a 0, as a test and as facts
pub texts_forth : (names : List (List ℕ)) → AllByRecursion (λ n. Contains n 0 → ⊥) names → AllByRecursion IsUtf8 names
    → list_all (λ n. not (has_zero n) && is_utf8 n) names ≡ true
texts_forth [] a b = refl
texts_forth (n ∷ names) a b =
    rw (no_zero_forth n a.0, is_utf8-from_IsUtf8 n b.0) (texts_forth names a.1 b.1)

pub texts_back : (names : List (List ℕ)) → list_all (λ n. not (has_zero n) && is_utf8 n) names ≡ true
    → AllByRecursion (λ n. Contains n 0 → ⊥) names × AllByRecursion IsUtf8 names
texts_back [] h = (tt, tt)
texts_back (n ∷ names) h =
    let parts = and_parts (not (has_zero n) && is_utf8 n) (list_all (λ x. not (has_zero x) && is_utf8 x) names) h in
    let both = and_parts (not (has_zero n)) (is_utf8 n) parts.0 in
    let rest = texts_back names parts.1 in
    ((no_zero_back n (not-true (has_zero n) both.0), rest.0), (IsUtf8-from_is_utf8 n both.1, rest.1))
