-- The entries of a map of numbers, one after the other.
use Rattle.std.proofs.Common.{◌≡◌, ◌∙◌, sym, refl, ap, subst, ℕ, ◌+◌, ◌<◌, ◌↔◌, List, [], ◌∷◌, ◌++◌, append_assoc, append-nil, length, get_or, map, replicate, Option, None, Some, arith}
use Rattle.std.specs.BTreeMap.{is_at}
use Rattle.std.specs.List.{All, Contains}
use Rattle.std.specs.List.Sorted.{IsStrictlySortedBy}
use Rattle.std.specs.Map.{keys_of, lookup}
use Rattle.std.specs.Ordering.{nat_cmp}
use Rattle.std.proofs.lemmas.Bool.{eqb-true}
use Rattle.std.proofs.lemmas.List.{get_or_append_left, length-append, length-map, map-append}
use Rattle.std.proofs.lemmas.Map.Entries.{place_from_lookup}
use Rattle.std.proofs.lemmas.Map.Keys.{below_from_sorted}
use Rattle.std.proofs.lemmas.Option.{slice_get-map}
use Rattle.std.specs.Option.{option_map}
use Rattle.bk_func.specs.Records.{FuncRecord}
use Rattle.bk_live.specs.declared.homes.Spot.{Spot}
use Rattle.bk_live.specs.declared.rows.LiveValue.{LiveValue}
use Rattle.bk_live.specs.declared.search.Search.{Search}
use Rattle.bk_live.specs.declared.search.Start.{Start}
use Rattle.bk_live.specs.declared.uses.Use.{Use}
use Rattle.bk_live.specs.Counts.{AreCounts, length_of}
use Rattle.bk_live.specs.Prepared.{FoundFor, IsPrepared, IsStartOf, home_or}
use Rattle.bk_live.specs.Rows.{AddsFound, HasRows}
use Rattle.bk_live.specs.Search.{Finds, Found, from, onward}
use Rattle.bk_live.specs.Seen.{LeadBack}
use Rattle.bk_live.specs.Table.{AreNextUses}
use Rattle.bk_live.proofs.Alone.{contains_at}
use Rattle.bk_live.proofs.Homing.{is_at_number}
use Rattle.bk_live.proofs.Rowing.{has_none, has_more}
use Rattle.bk_live.proofs.Spreading.{IsScanned, found_leads, scanned, walks_found}

at_end : {A : Type 0} (xs ys : List A) (x d : A) → get_or (xs ++ x ∷ ys) (length xs) d ≡ x
at_end [] ys x d = refl
at_end (y ∷ xs) ys x d = at_end xs ys x d

-- the keys before an entry are below its key
pub keys_below : {V : Type 0} (front rest : List (ℕ × V)) (e : ℕ × V) → IsStrictlySortedBy nat_cmp (keys_of (front ++ e ∷ rest)) → (m : ℕ) → Contains (keys_of front) m → m < e.0
keys_below {V} front rest e sorted m (k, l, at) =
    let keys : keys_of (front ++ e ∷ rest) ≡ keys_of front ++ (e.0 ∷ keys_of rest) = map-append (λ (p : ℕ × V). p.0) front (e ∷ rest) in
    let long : length (keys_of front) ≡ length front = length-map front (λ (p : ℕ × V). p.0) in
    let here : get_or (keys_of (front ++ e ∷ rest)) (length (keys_of front)) m ≡ e.0 = ap (λ us. get_or us (length (keys_of front)) m) keys ∙ at_end (keys_of front) (keys_of rest) e.0 m in
    let there : get_or (keys_of (front ++ e ∷ rest)) k m ≡ m = ap (λ us. get_or us k m) keys ∙ (get_or_append_left (keys_of front) (e.0 ∷ keys_of rest) m k l ∙ at) in
    let size : length (keys_of (front ++ e ∷ rest)) ≡ length (keys_of front) + length (e.0 ∷ keys_of rest) = ap length keys ∙ length-append (keys_of front) (e.0 ∷ keys_of rest) in
    let below : get_or (keys_of (front ++ e ∷ rest)) k m < get_or (keys_of (front ++ e ∷ rest)) (length (keys_of front)) m =
    below_from_sorted (keys_of (front ++ e ∷ rest)) k (length (keys_of front)) m sorted l (omega (arith, size)) in
    omega (arith, below, here, there)

-- and those up to it
pub keys_push : {V : Type 0} (front : List (ℕ × V)) (e : ℕ × V) → keys_of (front ++ e ∷ []) ≡ keys_of front ++ e.0 ∷ []
keys_push {V} front e = map-append (λ (p : ℕ × V). p.0) front (e ∷ [])

-- what the map has at the key of an entry
pub entry_is : {V : Type 0} (es front rest : List (ℕ × V)) (e : ℕ × V) (g : ℕ → Option V) → All (λ (p : ℕ × V). g p.0 ≡ Some p.1) es → es ≡ front ++ e ∷ rest → g e.0 ≡ Some e.1
entry_is {V} es front rest e g all same =
    let size : length es ≡ length front + length (e ∷ rest) = ap length same ∙ length-append front (e ∷ rest) in
    let at : get_or es (length front) e ≡ e = ap (λ us. get_or us (length front) e) same ∙ at_end front rest e e in
    let inside : length front < length es = omega (arith, size) in
    subst (λ (p : ℕ × V). g p.0 ≡ Some p.1) at (all (length front) e inside)

-- what a number leads to stands at its key
pub key_there : {V : Type 0} (es : List (ℕ × V)) (n : ℕ) (v : V) → lookup (is_at (nat_cmp n)) es ≡ Some v → Contains (keys_of es) n
key_there {V} es n v e =
    let (i, k, at, test) = place_from_lookup (is_at (nat_cmp n)) es v e in
    let same : n ≡ k = eqb-true n k (sym (is_at_number n k) ∙ test) in
    subst (λ (m : ℕ). Contains (keys_of es) m) (sym same)
    (contains_at (keys_of es) i k (slice_get-map (λ (p : ℕ × V). p.0) es i ∙ ap (option_map (λ (p : ℕ × V). p.0)) at))

-- a search that finds a place has a start
pub has_start : (es : List (List ℕ)) (ws : List ℕ) (avoided : ℕ) (starts : List Start) (i d : ℕ) → Found es ws avoided starts i d → (s : Start) × Contains starts s
has_start es ws avoided starts _ _ (from s c inside) = (s, c)
has_start es ws avoided starts _ _ (onward p q d w found edge inside at) = has_start es ws avoided starts p d found

-- the rows once all numbers are added
pub rows_live : {f : FuncRecord} {os : List (List ℕ)} {h : ℕ → Option Spot} {p : ℕ → Option ℕ} {us : List Use} → IsPrepared f os h p us → (counts : List (List ℕ)) → AreCounts f os counts
    → (es : List (List ℕ)) → LeadBack f es → (ws : List ℕ) → ws ≡ map length_of counts → (starts : ℕ → List Start)
    → ((n : ℕ) (s : Start) → Contains (starts n) s ↔ IsStartOf h counts us n s) → (ns : List ℕ) → ((n : ℕ) (s : Start) → Contains (starts n) s → Contains ns n) → (rows : List (List LiveValue))
    → HasRows (λ n. FoundFor h es ws (starts n) n) (length f.blocks) ns rows → AreNextUses f os rows
rows_live {f} {os} {h} {p} {us} r counts are es back ws lengths starts begun ns there rows has = record {
  size = has.size;
  leads = λ i l inside c.
      let (k, found) = has.sound i l inside c in
      found_leads f os l.value es ws (home_or (h l.value) (length es)) (starts l.value) back (scan l.value) i l.distance found;
  least = λ i n m inside walk.
      let (d, found, low) = walks_found f os n es ws (home_or (h n) (length es)) (starts n) back (scan n) (m + 1) i m inside (omega arith) walk in
      let (s, c) = has_start es ws (home_or (h n) (length es)) (starts n) i d found in
      let (e, in_row, less) = has.least i n d inside (there n s c) found in
      (e, in_row, omega arith);
}
  where
    scan : (n : ℕ) → IsScanned f os n ws (home_or (h n) (length es)) (starts n)
    scan n = scanned r counts are es back ws lengths n (starts n) (begun n)

-- a list that is there stands at its key
pub has_key : {V : Type 0} (es : List (ℕ × V)) (n : ℕ) (lists : Option V → List Start) (s : Start) → lists None ≡ [] → Contains (lists (lookup (is_at (nat_cmp n)) es)) s → Contains (keys_of es) n
has_key {V} es n lists s none c = go (lookup (is_at (nat_cmp n)) es) refl
  where
    nothing : Contains [] s → ⊥
    nothing (k, l, e) = absurd (omega arith)

    go : (o : Option V) → lookup (is_at (nat_cmp n)) es ≡ o → Contains (keys_of es) n
    go None e = absurd (nothing (subst (λ (us : List Start). Contains us s) (ap lists e ∙ none) c))
    go (Some v) e = key_there es n v e

-- the rows after the entries of a map that come before the rest
pub record RowsSoFar {V : Type 0} (F : ℕ → ℕ → ℕ → Type 0) (count : ℕ) (es rest : List (ℕ × V)) (rows : List (List LiveValue)) : Type 0 where
  pub front : List (ℕ × V)
  pub whole : es ≡ front ++ rest
  pub has : HasRows F count (keys_of front) rows

pub rows_first : {V : Type 0} (F : ℕ → ℕ → ℕ → Type 0) (count : ℕ) (es rest : List (ℕ × V)) (rows : List (List LiveValue)) → rest ≡ es → rows ≡ replicate count [] → RowsSoFar F count es rest rows
rows_first {V} F count es rest rows same none = record { front = []; whole = sym same; has = has_none F count rows none }

pub rows_next : {V : Type 0} (F : ℕ → ℕ → ℕ → Type 0) (count : ℕ) (es rest later : List (ℕ × V)) (k : ℕ) (v : V) (s : Search) (rows more : List (List LiveValue)) → IsStrictlySortedBy nat_cmp (keys_of es)
    → rest ≡ (k, v) ∷ later → RowsSoFar F count es rest rows → (g : ℕ → Option V) → All (λ (p : ℕ × V). g p.0 ≡ Some p.1) es → (g k ≡ Some v → Finds (F k) count s) → AddsFound k s rows more
    → RowsSoFar F count es later more
rows_next {V} F count es rest later k v s rows more sorted step so g all finds a =
    let whole : es ≡ so.front ++ (k, v) ∷ later = so.whole ∙ ap (λ us. so.front ++ us) step in
    let above : (m : ℕ) → Contains (keys_of so.front) m → m < k = keys_below so.front later (k, v) (subst (λ (us : List (ℕ × V)). IsStrictlySortedBy nat_cmp (keys_of us)) whole sorted) in
    let at : g k ≡ Some v = entry_is es so.front later (k, v) g all whole in
    let has : HasRows F count (keys_of so.front ++ k ∷ []) more = has_more F count (keys_of so.front) k s rows more so.has above (finds at) a in
    record {
      front = so.front ++ (k, v) ∷ [];
      whole = whole ∙ sym (append_assoc so.front ((k, v) ∷ []) later);
      has = subst (λ (ns : List ℕ). HasRows F count ns more) (sym (keys_push so.front (k, v))) has;
    }

pub rows_last : {V : Type 0} (F : ℕ → ℕ → ℕ → Type 0) (count : ℕ) (es rest : List (ℕ × V)) (rows : List (List LiveValue)) → rest ≡ [] → RowsSoFar F count es rest rows → HasRows F count (keys_of es) rows
rows_last {V} F count es rest rows none so =
    subst (λ (us : List (ℕ × V)). HasRows F count (keys_of us) rows) (sym (so.whole ∙ (ap (λ us. so.front ++ us) none ∙ append-nil so.front))) so.has
