-- Steps of the loops over names.
use Rattle.std.proofs.Common.{◌≡◌, ℕ, ◌+◌, ◌<◌, ◌≤◌, List, [], ◌∷◌, ◌++◌, zero, suc, Bool, true, false, ◌||◌, cond, nat_eq, nat_lt, ◌==◌, ◌&&◌, not, inl, inr, Some, None, Result, Ok, Err, MatchResult, Bor, take, slice_index, length-append, ◌∙◌, length, map, drop, get_or, slice_range, refl, sym, ap, arith}
use Rattle.std.proofs.lemmas.List.Folds.{list_any-append}
use Rattle.std.proofs.lemmas.List.{drop_more, drop_all, take_more, append_assoc, append-nil, length-map, take_at, drop_at, drop-drop, get_or_at, take-append-drop}
use Rattle.std.proofs.lemmas.Bool.{and_parts, cases_Bool, ltb-true, eqb-true, lt-ltb, eq-eqb}
use Rattle.std.proofs.lemmas.Slice.Eq.{bytes_eq-Decides}
use Rattle.std.proofs.lemmas.Str.{IsUtf8-from_is_utf8, is_utf8-from_IsUtf8}
use Rattle.std.proofs.Math.Dec.{eqb-suc-zero}
use Rattle.std.specs.Str.{IsUtf8}
use Rattle.std.specs.Result.{is_ok}
use Rattle.std.specs.Cmp.Lexicographic.{same_text}
use Rattle.std.specs.List.{flat_map, list_all}
use Rattle.bk_elf.specs.Lists.{has_zero}
use Rattle.bk_elf.specs.Tables.{ended}
use Rattle.bk_elf.specs.Contents.{name_bytes}
use Rattle.std.proofs.lemmas.Map.Views.{btree_set_len-from_list}
use Rattle.std.specs.Ordering.{nat_cmp, on, eq_by_cmp}
use Rattle.std.specs.Cmp.Lexicographic.{slice_cmp, texts_ties, on_texts}
use Rattle.std.specs.BTreeSet.{BTreeSet, IsFromIterResult, IsOrdered, Updates, btree_set_len}
use Rattle.std.specs.Cmp.{eq_by_cmp_equiv}
use Rattle.std.specs.Set.{is_member, unique_keys, distinct_count}
use Rattle.std.specs.Str.{bytes_eq, is_utf8}
use Rattle.bk_elf.specs.declared.symbols.Entry.{Entry}
use Rattle.bk_elf.specs.Records.{SymbolRecord}
use Rattle.bk_elf.specs.Loading.{symbol_of, symbols_of, after_name, name_end, names_at, are_distinct}

-- the names that are read and those that are left, after one more, and at the end
pub names_more : (out : List (List ℕ)) (bytes : List ℕ) (size : ℕ) (places : List ℕ) (k : ℕ) → k < length places
    → out ++ names_at bytes size (drop k places)
    ≡ (out ++ slice_range bytes (get_or places k 0) (name_end size (drop (k + 1) places)) ∷ []) ++ names_at bytes size (drop (k + 1) places)
unfolding names_at
names_more out bytes size places k lt =
    rw (drop_more places k 0 lt) (sym (append_assoc out (slice_range bytes (get_or places k 0) (name_end size (drop (k + 1) places)) ∷ []) (names_at bytes size (drop (k + 1) places))))

pub names_end : (out : List (List ℕ)) (bytes : List ℕ) (size : ℕ) (places : List ℕ) (k : ℕ) → length places ≤ k → out ++ names_at bytes size (drop k places) ≡ out
unfolding names_at
names_end out bytes size places k le = rw (drop_all k places le) (append-nil out)

member_on : {K : Type 0} (f : K → List ℕ) (xs : List K) (q : K) → is_member (eq_by_cmp (on f (slice_cmp nat_cmp))) xs q ≡ is_member bytes_eq (map f xs) (f q)
member_on f [] q = refl
member_on f (x ∷ xs) q = rw (← texts_ties (f q) (f x), member_on f xs q) refl

count_cond : {K J : Type 0} (a b : Bool) (xs : List K) (ys : List J) (x : K) (y : J) → a ≡ b → length xs ≡ length ys
    → length (cond a xs (x ∷ xs)) ≡ length (cond b ys (y ∷ ys))
count_cond true true xs ys x y e h = h
count_cond false false xs ys x y e h = ap suc h
count_cond true false xs ys x y e h = cc
count_cond false true xs ys x y e h = cc

count_on : {K : Type 0} (f : K → List ℕ) (xs : List K) → distinct_count (eq_by_cmp (on f (slice_cmp nat_cmp))) xs ≡ distinct_count bytes_eq (map f xs)
count_on f [] = refl
count_on f (x ∷ xs) = count_cond (is_member (eq_by_cmp (on f (slice_cmp nat_cmp))) xs x) (is_member bytes_eq (map f xs) (f x))
    (unique_keys (eq_by_cmp (on f (slice_cmp nat_cmp))) xs) (unique_keys bytes_eq (map f xs)) x (f x) (member_on f xs x) (count_on f xs)

-- a set made of names has as many of them as there are different ones
pub distinct_names : {K : Type 0} (f : K → List ℕ) (names : List K) (set : BTreeSet K) → IsFromIterResult (on f (slice_cmp nat_cmp)) names set
    → nat_eq (btree_set_len set) (length names) ≡ are_distinct (map f names)
distinct_names f names set h =
    rw (btree_set_len-from_list (on_texts f) names set h, count_on f names, length-map names f) refl

-- bytes that begin alike are equal where what follows is
bytes_eq_after : (p xs ys : List ℕ) → bytes_eq (p ++ xs) (p ++ ys) ≡ bytes_eq xs ys
bytes_eq_after [] xs ys = refl
bytes_eq_after (x ∷ p) xs ys = rw (eq-eqb x x refl) (bytes_eq_after p xs ys)

-- what an ended name begins
ended_is : (bytes name rest : List ℕ) → after_name bytes name ≡ Some rest → bytes ≡ ended name ++ rest
unfolding after_name
ended_is bytes name rest h = elim (cases_Bool (nat_lt (length name) (length bytes) && (slice_index bytes (length name) == 0 && bytes_eq (take (length name) bytes) name))) [
  | inl holds ↦
      let a = and_parts (nat_lt (length name) (length bytes)) (slice_index bytes (length name) == 0 && bytes_eq (take (length name) bytes) name) holds in
      let b = and_parts (slice_index bytes (length name) == 0) (bytes_eq (take (length name) bytes) name) a.1 in
      let inside = ltb-true (length name) (length bytes) a.0 in
      let zero_is = eqb-true (slice_index bytes (length name)) 0 b.0 in
      let same = same_text (take (length name) bytes) name (sym b.1) in
      let found = rw holds at h in
      let rest_is : drop (length name + 1) bytes ≡ rest = cc in
      let split = drop_more bytes (length name) 0 inside in
      sym (take-append-drop (length name) bytes) ∙ rw (same, split, zero_is, rest_is) (sym (append_assoc name (0 ∷ []) rest))
  | inr fails ↦ let k = rw fails at h in cc
]

own_name : (name rest : List ℕ) → after_name (ended name ++ rest) name ≡ Some rest
unfolding after_name
own_name name rest =
    let flat : ended name ++ rest ≡ name ++ 0 ∷ rest = append_assoc name (0 ∷ []) rest in
    let size = length-append name (0 ∷ rest) in
    let inside : nat_lt (length name) (length (name ++ 0 ∷ rest)) ≡ true = lt-ltb (length name) (length (name ++ 0 ∷ rest)) (omega arith) in
    let ends : slice_index (name ++ 0 ∷ rest) (length name) ≡ 0 = get_or_at name 0 rest 0 (length name) refl in
    let front = take_at name (0 ∷ rest) (length name) refl in
    let same : bytes_eq name name ≡ true = (bytes_eq-Decides name name).1 refl in
    let back : drop (length name + 1) (name ++ 0 ∷ rest) ≡ rest = sym (drop-drop 1 (length name) (name ++ 0 ∷ rest)) ∙ ap (drop 1) (drop_at name (0 ∷ rest) (length name) refl) in
    rw (flat, inside, ends, front, same, back) refl

-- bytes that begin with a name follow all names where the bytes after it follow the others
follow_cons : (bytes rest name ys : List ℕ) → after_name bytes name ≡ Some rest → bytes_eq bytes (ended name ++ ys) ≡ bytes_eq rest ys
follow_cons bytes rest name ys h = rw (ended_is bytes name rest h) (bytes_eq_after (ended name) rest ys)

other_name : (bytes name ys : List ℕ) → after_name bytes name ≡ None → bytes_eq bytes (ended name ++ ys) ≡ false
other_name bytes name ys h = elim (cases_Bool (bytes_eq bytes (ended name ++ ys))) [
  | inl same ↦
      let is = same_text bytes (ended name ++ ys) (sym same) in
      let own : after_name bytes name ≡ Some ys = rw is (own_name name ys) in
      cc
  | inr other ↦ other
]

abbrev pub bytes_named : List (Bor (List ℕ)) → List ℕ
bytes_named names = flat_map ended (map (λ n. n.now) names)

pub follow_more : (bytes rest : List ℕ) (names : List (Bor (List ℕ))) (i : ℕ) (d : Bor (List ℕ)) → i < length names
    → after_name bytes (get_or names i d).now ≡ Some rest → bytes_eq bytes (bytes_named (drop i names)) ≡ bytes_eq rest (bytes_named (drop (i + 1) names))
follow_more bytes rest names i d lt h =
    rw (drop_more names i d lt) (follow_cons bytes rest (get_or names i d).now (bytes_named (drop (i + 1) names)) h)

pub follow_none : (bytes : List ℕ) (names : List (Bor (List ℕ))) (i : ℕ) (d : Bor (List ℕ)) → i < length names
    → after_name bytes (get_or names i d).now ≡ None → bytes_eq bytes (bytes_named (drop i names)) ≡ false
follow_none bytes names i d lt h =
    rw (drop_more names i d lt) (other_name bytes (get_or names i d).now (bytes_named (drop (i + 1) names)) h)

pub follow_end : (bytes : List ℕ) (names : List (Bor (List ℕ))) (i : ℕ) → length names ≤ i → bytes_eq bytes (bytes_named (drop i names)) ≡ nat_eq (length bytes) 0
follow_end [] names i le = rw (drop_all i names le) refl
follow_end (b ∷ bytes) names i le = rw (drop_all i names le) (sym (eqb-suc-zero (length bytes)))

abbrev pub is_text : List ℕ → Bool
is_text name = not (has_zero name) && is_utf8 name

abbrev pub texts_named : List (Bor (List ℕ)) → Bool
texts_named names = list_all is_text (map (λ n. n.now) names)

pub texts_more : (names : List (Bor (List ℕ))) (i : ℕ) (name : Bor (List ℕ)) → i < length names → name ≡ get_or names i name
    → is_text name.now ≡ true → texts_named (drop i names) ≡ texts_named (drop (i + 1) names)
texts_more names i name lt is h = rw (drop_more names i name lt, ← is, h) refl

pub texts_fail : (names : List (Bor (List ℕ))) (i : ℕ) (name : Bor (List ℕ)) → i < length names → name ≡ get_or names i name
    → is_text name.now ≡ false → texts_named (drop i names) ≡ false
texts_fail names i name lt is h = rw (drop_more names i name lt, ← is, h) refl

pub texts_end : (names : List (Bor (List ℕ))) (i : ℕ) → length names ≤ i → texts_named (drop i names) ≡ true
texts_end names i le = rw (drop_all i names le) refl

-- what the reading of a text tells
pub utf8_is : {X E : Type 0} (name : List ℕ) (r : Result X E) (P : X → Type 0) (Q : E → Type 0)
    → MatchResult r (λ s. P s × IsUtf8 name) (λ e. (IsUtf8 name → ⊥) × Q e) → is_ok r ≡ is_utf8 name
utf8_is name (Ok s) P Q h = sym (is_utf8-from_IsUtf8 name h.1)
utf8_is name (Err e) P Q h = elim (cases_Bool (is_utf8 name)) [ inl holds ↦ absurd (h.0 (IsUtf8-from_is_utf8 name holds)) | inr fails ↦ sym fails ]

pub ended_cons : (b : ℕ) (rest : List ℕ) (names : List (List ℕ)) → bytes_eq (b ∷ rest) (name_bytes names) ≡ (b == 0 && bytes_eq rest (flat_map ended names))
unfolding name_bytes
ended_cons b rest names = refl

pub ended_nil : (bytes : List ℕ) (names : List (List ℕ)) → length bytes ≡ 0 → bytes_eq bytes (name_bytes names) ≡ false
unfolding name_bytes
ended_nil [] names e = refl
ended_nil (b ∷ bytes) names e = absurd (omega arith)

one_more : (a b : Bool) → cond a true b ≡ (b || (a || false))
one_more true true = refl
one_more true false = refl
one_more false true = refl
one_more false false = refl

-- a set of the names so far, after one more
pub set_more : {K : Type 0} (f : K → List ℕ) (names : List K) (i : ℕ) (d : K) (old new : BTreeSet K) → i < length names
    → IsFromIterResult (on f (slice_cmp nat_cmp)) (take i names) old → Updates (on f (slice_cmp nat_cmp)) old new (get_or names i d) true
    → IsOrdered (on f (slice_cmp nat_cmp)) new → IsFromIterResult (on f (slice_cmp nat_cmp)) (take (i + 1) names) new
set_more f names i d old new lt was updates ordered =
    let R = on f (slice_cmp nat_cmp) in
    let key = get_or names i d in (
      (λ q.
          let more = ap (λ xs. is_member (eq_by_cmp R) xs q) (take_more names i d lt) ∙ list_any-append (eq_by_cmp R q) (take i names) (key ∷ []) in
          let flip = (eq_by_cmp_equiv (on_texts f)).symm q key in
          updates.0 q ∙ ap (cond (eq_by_cmp R key q) true) (was.0 q) ∙ one_more (eq_by_cmp R key q) (is_member (eq_by_cmp R) (take i names) q)
          ∙ ap (λ b. is_member (eq_by_cmp R) (take i names) q || (b || false)) (sym flip) ∙ sym more),
      ordered,
    )

-- the symbols that are made and those that are left, after one more, and at the end
pub symbols_more : (out : List SymbolRecord) (entries : List Entry) (names : List (Bor (List ℕ))) (k : ℕ) (e : Entry) (d : Bor (List ℕ)) → k < length entries → k < length names
    → out ++ symbols_of (drop k entries) (map (λ n. n.now) (drop k names))
    ≡ (out ++ symbol_of (get_or entries k e) (get_or names k d).now ∷ []) ++ symbols_of (drop (k + 1) entries) (map (λ n. n.now) (drop (k + 1) names))
symbols_more out entries names k e d lt lt' =
    rw (drop_more entries k e lt, drop_more names k d lt')
    (sym (append_assoc out (symbol_of (get_or entries k e) (get_or names k d).now ∷ []) (symbols_of (drop (k + 1) entries) (map (λ n. n.now) (drop (k + 1) names)))))

pub symbols_end : (out : List SymbolRecord) (entries : List Entry) (names : List (Bor (List ℕ))) (k : ℕ) → length entries ≤ k
    → out ++ symbols_of (drop k entries) (map (λ n. n.now) (drop k names)) ≡ out
symbols_end out entries names k le = rw (drop_all k entries le) (append-nil out)

-- a name among texts is a text
pub text_at : (names : List (Bor (List ℕ))) (k : ℕ) (d : Bor (List ℕ)) → k < length names → texts_named names ≡ true → IsUtf8 (get_or names k d).now
text_at [] k d lt h = absurd (omega arith)
text_at (n ∷ names) zero d lt h =
    let a = and_parts (is_text n.now) (texts_named names) h in
    let b = and_parts (not (has_zero n.now)) (is_utf8 n.now) a.0 in
    IsUtf8-from_is_utf8 n.now b.1
text_at (n ∷ names) (suc k) d lt h =
    let a = and_parts (is_text n.now) (texts_named names) h in
    text_at names k d (omega arith) a.1
