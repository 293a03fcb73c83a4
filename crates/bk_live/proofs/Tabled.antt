-- What a table tells are the next uses.
use Rattle.std.proofs.Common.{◌≡◌, ◌∙◌, sym, refl, ap, subst, ℕ, zero, suc, ◌+◌, ◌<◌, ◌≤◌, ◌⊎◌, ◌↔◌, ◌==◌, ◌&&◌, nat_le, Bool, true, false, cond, List, [], ◌∷◌, length, get_or, map, Option, None, Some, inl, inr, ⊎_elim, arith}
use Rattle.std.proofs.Math.Path.{fun_ext}
use Rattle.std.specs.BTreeMap.Range.{range_contains}
use Rattle.std.specs.List.{AllPairs, Contains, filter, find, fold, slice_get}
use Rattle.std.specs.Option.{option_and_then, option_map}
use Rattle.std.specs.declared.ops.Bound.TheVariants.{Included, Unbounded}
use Rattle.std.proofs.lemmas.Bool.{and_parts, cases_eq, cases_lt, eq-eqb, eqb-true, false≢true, le-leb, leb-true, le-ltb, lt-ltb}
use Rattle.std.proofs.lemmas.List.{get_or_past, get_or-map, length-map}
use Rattle.std.proofs.lemmas.Option.{none-some, same_Some, slice_get-get_or, slice_get_past, slice_get_within}
use Rattle.bk_func.specs.Records.{BlockRecord, FuncRecord}
use Rattle.bk_live.specs.declared.homes.Spot.{Spot}
use Rattle.bk_live.specs.declared.rows.LiveValue.{LiveValue}
use Rattle.bk_live.specs.declared.table.Sight.{Sight}
use Rattle.bk_live.specs.declared.table.Sight.TheVariants as sees
use Rattle.bk_live.specs.declared.table.Table.{Table}
use Rattle.bk_live.specs.Counts.{count_at, steps_between, total_at}
use Rattle.bk_live.specs.Homes.{home, place}
use Rattle.bk_live.specs.Live.{AllNextUses, AreLive, IsEntry, IsLive, IsNextUse, IsOrdered, IsPlaced, IsUsedAt, Leads, NextUseIs, order_at}
use Rattle.bk_live.specs.Rows.{IsRising, distance_in, live_value, values_of}
use Rattle.bk_live.specs.Seen.{IsFree, IsLeast, IsUnused, Sees, lesser}
use Rattle.bk_live.specs.Table.{IsLiveRow, IsTable, definition, entry_from, entry_of, first_use, least_behind, look, nearer, next_at, next_in, sight_of, told, use_cmp, use_key}
use Rattle.bk_live.proofs.Alone.{entry_alone}
use Rattle.bk_live.proofs.Counting.{cost_grows, last_is}
use Rattle.bk_live.proofs.Finding.{IsFoundIn, found_in, of_values, rising_alone, to_values}
use Rattle.bk_live.proofs.Firsts.{first_none, first_some, order_le, order_less, order_of}
use Rattle.bk_live.proofs.Spotting.{Key}
use Rattle.bk_live.proofs.Spreading.{count_is}
use Rattle.bk_live.proofs.Using.{place_is, the_some}
use Rattle.bk_live.proofs.Walking.{comes, count_to, ends_at, leaves_by, used_within}

-- the first use behind an entry
abbrev pub IsFirstUse : FuncRecord → List (List ℕ) → ℕ → ℕ → ℕ → Option ℕ → Type 0
IsFirstUse f os n i k None = (l : ℕ) → IsUnused f os n i k l
IsFirstUse f os n i k (Some l) = k ≤ l × IsUsedAt f os n i l × IsUnused f os n i k l

-- whether a use is at or behind the key
abbrev pub is_behind : ℕ → ℕ → ℕ → Key → Bool
is_behind n i k q = range_contains use_cmp (Included (use_key n i k)) Unbounded q

behind_is : (n i k l : ℕ) → k ≤ l → is_behind n i k (use_key n i l) ≡ true
behind_is n i k l low = rw (order_of n i k l low) refl

is_front : (b : Bool) → (b && true) ≡ true → b ≡ true
is_front true e = refl
is_front false e = e

pub first_is : {f : FuncRecord} {os : List (List ℕ)} {t : Table} → IsTable f os t → (i k n : ℕ) → IsFirstUse f os n i k (first_use t i k n)
first_is {f} {os} {t} h i k n = go (slice_get (filter (is_behind n i k) t.uses.keys) 0) refl
  where
    none : slice_get (filter (is_behind n i k) t.uses.keys) 0 ≡ None → (l : ℕ) → IsUnused f os n i k l
    none e l j low high used = first_none (is_behind n i k) t.uses.keys e (use_key n i j) ((h.uses n i j).1 used) (behind_is n i k j low)

    tested : (x : Key) (b : Bool) → (x.0 == n && x.1 == i) ≡ b → slice_get (filter (is_behind n i k) t.uses.keys) 0 ≡ Some x → IsFirstUse f os n i k (cond b (Some x.2) None)
    tested x true same e =
        let parts = and_parts (x.0 == n) (x.1 == i) same in
        let value : x.0 ≡ n = eqb-true x.0 n parts.0 in
        let block : x.1 ≡ i = eqb-true x.1 i parts.1 in
        let (c, passes, least) = first_some use_cmp (is_behind n i k) t.uses.keys x h.ordered e in
        let is : x ≡ use_key n i x.2 = rw (value, block) refl in
        let le = order_le n i k x.0 x.1 x.2 (is_front _ passes) in
        let low : k ≤ x.2 = (le.1 (sym value)).1 (sym block) in (
          low,
          (h.uses n i x.2).0 (subst (λ (y : Key). Contains t.uses.keys y) is c),
          λ j a b used. ⊎_elim
              (λ (one : use_key n i j ≡ x). let entry : j ≡ x.2 = ap (λ (y : Key). y.2) one in absurd (omega arith))
              (λ less.
              let more = order_less x.0 x.1 x.2 n i j less in
              let past : x.2 < j = (more.1 value).1 block in
              absurd (omega arith))
              (least (use_key n i j) ((h.uses n i j).1 used) (behind_is n i k j a)),
        )
    tested x false apart e = λ l j a b used.
        let (c, passes, least) = first_some use_cmp (is_behind n i k) t.uses.keys x h.ordered e in
        let le = order_le n i k x.0 x.1 x.2 (is_front _ passes) in
        ⊎_elim
        (λ (one : use_key n i j ≡ x).
        let value : x.0 ≡ n = ap (λ (y : Key). y.0) (sym one) in
        let block : x.1 ≡ i = ap (λ (y : Key). y.1) (sym one) in
        false≢true (sym apart ∙ (rw (eq-eqb x.0 n value, eq-eqb x.1 i block) refl)))
        (λ less.
        let more = order_less x.0 x.1 x.2 n i j less in
        let value : x.0 ≡ n = let p : n ≤ x.0 = le.0 in let q : x.0 ≤ n = more.0 in omega arith in
        let block : x.1 ≡ i = let p : i ≤ x.1 = (le.1 (sym value)).0 in let q : x.1 ≤ i = (more.1 value).0 in omega arith in
        false≢true (sym apart ∙ (rw (eq-eqb x.0 n value, eq-eqb x.1 i block) refl)))
        (least (use_key n i j) ((h.uses n i j).1 used) (behind_is n i k j a))

    go : (o : Option Key) → slice_get (filter (is_behind n i k) t.uses.keys) 0 ≡ o → IsFirstUse f os n i k (entry_of n i o)
    go None e = none e
    go (Some x) e = tested x (x.0 == n && x.1 == i) refl e

-- where the value stands
abbrev pub IsDefinedAt : List (List ℕ) → ℕ → ℕ → ℕ → Option ℕ → Type 0
IsDefinedAt os n i k None = (l : ℕ) → IsFree os n i k l
IsDefinedAt os n i k (Some d) = k ≤ d × IsEntry os i d n

pub definition_is : {f : FuncRecord} {os : List (List ℕ)} {t : Table} → IsTable f os t → (i k n : ℕ) → IsDefinedAt os n i k (definition t i k n)
definition_is {f} {os} {t} h i k n = go (home t.homes n) refl
  where
    tested : (s : Spot) (b : Bool) → (s.block == i && nat_le k s.entry) ≡ b → home t.homes n ≡ Some s → IsDefinedAt os n i k (cond b (Some s.entry) None)
    tested s true same e =
        let parts = and_parts (s.block == i) (nat_le k s.entry) same in
        let block : s.block ≡ i = eqb-true s.block i parts.0 in
        (leb-true k s.entry parts.1, subst (λ (j : ℕ). IsEntry os j s.entry n) block (h.homes.right n s e))
    tested s false apart e = λ l j a b entry.
        let (block, same) = entry_alone f os h.given s.block i s.entry j n (h.homes.right n s e) entry in
        let low : k ≤ s.entry = omega arith in
        false≢true (sym apart ∙ (rw (eq-eqb s.block i block, le-leb k s.entry low) refl))

    go : (o : Option Spot) → home t.homes n ≡ o → IsDefinedAt os n i k (entry_from i k o)
    go None e = λ l j a b entry. let (s, is) = the_some (home t.homes n) (h.homes.there i j n entry) in none-some s (sym e ∙ is)
    go (Some s) e = tested s (s.block == i && nat_le k s.entry) refl e

-- what comes first
sees_of : {f : FuncRecord} {os : List (List ℕ)} → IsOrdered f os → (n i k : ℕ) (u d : Option ℕ) → IsFirstUse f os n i k u → IsDefinedAt os n i k d → Sees f os n i k (sight_of u d)
sees_of given n i k None None used defined = (used, defined)
sees_of given n i k None (Some d) used defined = (d, defined.0, defined.1, used (d + 1))
sees_of given n i k (Some u) None used defined = (used.0, used.1, used.2, defined u)
sees_of {f} {os} given n i k (Some u) (Some d) used defined = ⊎_elim
    (λ (low : d < u).
    subst (λ (b : Bool). Sees f os n i k (cond b sees.Definition (sees.Use u))) (sym (lt-ltb d u low))
    (d, defined.0, defined.1, λ j a b. used.2 j a (omega arith)))
    (λ (high : u ≤ d).
    subst (λ (b : Bool). Sees f os n i k (cond b sees.Definition (sees.Use u))) (sym (le-ltb d u high))
    (used.0, used.1, used.2, λ j a b entry. let (same, here) = entry_alone f os given i i j d n entry defined.1 in absurd (omega arith)))
    (cases_lt d u)

pub look_sees : {f : FuncRecord} {os : List (List ℕ)} {t : Table} → IsTable f os t → (i k n : ℕ) → Sees f os n i k (look t i k n)
look_sees {f} {os} {t} h i k n = sees_of h.given n i k (first_use t i k n) (definition t i k n) (first_is h i k n) (definition_is h i k n)

-- the least of numbers, said of others
pub least_same : (P Q : ℕ → Type 0) (o : Option ℕ) → ((m : ℕ) → P m → Q m) → ((m : ℕ) → Q m → P m) → IsLeast P o → IsLeast Q o
least_same P Q None to back least = λ m q. least m (back m q)
least_same P Q (Some c) to back least = (to c least.0, λ m q. least.1 m (back m q))

pub least_more : (P Q : ℕ → Type 0) (c : ℕ) (o : Option ℕ) → ((d : ℕ) → P d → Q (c + d)) → ((m : ℕ) → Q m → (d : ℕ) × P d × (m ≡ c + d)) → IsLeast P o → IsLeast Q (option_map (λ d. c + d) o)
least_more P Q c None to back least = λ m q. let (d, p, e) = back m q in least d p
least_more P Q c (Some d) to back least = (to d least.0, λ m q. let (e, p, sum) = back m q in let low : d ≤ e = least.1 e p in omega arith)

-- the least of those before and of others
lesser_least : (P R : ℕ → Type 0) (a b : Option ℕ) → IsLeast P a → IsLeast R b → IsLeast (λ m. P m ⊎ R m) (lesser a b)
lesser_least P R None None p r = λ m h. ⊎_elim (λ x. p m x) (λ x. r m x) h
lesser_least P R None (Some b) p r = (inr r.0, λ m h. ⊎_elim (λ x. absurd (p m x)) (λ x. r.1 m x) h)
lesser_least P R (Some a) None p r = (inl p.0, λ m h. ⊎_elim (λ x. p.1 m x) (λ x. absurd (r m x)) h)
lesser_least P R (Some a) (Some b) p r = ⊎_elim
    (λ (l : b < a).
    subst (λ (t : Bool). IsLeast (λ m. P m ⊎ R m) (cond t (Some b) (Some a))) (sym (lt-ltb b a l))
    (inr r.0, λ m h. ⊎_elim (λ x. let k : a ≤ m = p.1 m x in omega arith) (λ x. r.1 m x) h))
    (λ (l : a ≤ b).
    subst (λ (t : Bool). IsLeast (λ m. P m ⊎ R m) (cond t (Some b) (Some a))) (sym (le-ltb b a l))
    (inl p.0, λ m h. ⊎_elim (λ x. p.1 m x) (λ x. let k : b ≤ m = r.1 m x in omega arith) h))
    (cases_lt b a)

-- the row of a table
pub row_next : {f : FuncRecord} {os : List (List ℕ)} {t : Table} → IsTable f os t → (i : ℕ) (l : LiveValue) → i < length f.blocks → Contains (get_or t.live i []) l → IsNextUse f os l.value i 0 l.distance
row_next {f} {os} {t} h i l inside c = record {
  leads = h.live.leads i l inside c;
  least = λ m walk.
      let (d, k, low) = h.live.least i l.value m inside walk in
      let same : l ≡ live_value l.value d = rising_alone (get_or t.live i []) l (live_value l.value d) (t.rising i) c k refl in
      let far : l.distance ≡ d = ap (λ (y : LiveValue). y.distance) same in
      omega arith;
}

pub row_is : {f : FuncRecord} {os : List (List ℕ)} {t : Table} → IsTable f os t → (i : ℕ) → i < length f.blocks → IsLiveRow f os i (get_or t.live i [])
row_is {f} {os} {t} h i inside = record {
  next = λ l. (row_next h i l inside, back l);
  live = λ n. (
    (λ c.
        let (l, k, same) = of_values (get_or t.live i []) n c in
        (l.distance, subst (λ (m : ℕ). Leads f os m i 0 l.distance) same (h.live.leads i l inside k))),
    (λ (m, walk).
        let (d, k, low) = h.live.least i n m inside walk in to_values (get_or t.live i []) (live_value n d) k),
  );
  rising = t.rising i;
}
  where
    back : (l : LiveValue) → IsNextUse f os l.value i 0 l.distance → Contains (get_or t.live i []) l
    back l next =
        let (d, k, low) = h.live.least i l.value l.distance inside next.leads in
        let more : l.distance ≤ d = next.least d (h.live.leads i (live_value l.value d) inside k) in
        let same : d ≡ l.distance = omega arith in
        subst (λ (e : ℕ). Contains (get_or t.live i []) (live_value l.value e)) same k

-- the least distance in a row
distance_least : {f : FuncRecord} {os : List (List ℕ)} {t : Table} → IsTable f os t → (n q : ℕ) → q < length f.blocks → IsLeast (Leads f os n q 0) (distance_in (get_or t.live q []) n)
distance_least {f} {os} {t} h n q inside = go (find (λ l. l.value == n) (get_or t.live q [])) (found_in (get_or t.live q []) n)
  where
    go : (o : Option LiveValue) → IsFoundIn (get_or t.live q []) n o → IsLeast (Leads f os n q 0) (option_map (λ l. l.distance) o)
    go None none = λ m walk. let (d, k, low) = h.live.least q n m inside walk in none (live_value n d) k refl
    go (Some l) (c, same) =
        let next = row_next h q l inside c in (
          subst (λ (v : ℕ). Leads f os v q 0 l.distance) same next.leads,
          λ m walk. next.least m (subst (λ (v : ℕ). Leads f os v q 0 m) (sym same) walk),
        )

-- the walks over the starts of some blocks
abbrev pub IsOver : FuncRecord → List (List ℕ) → ℕ → List ℕ → ℕ → Type 0
IsOver f os n qs m = (q : ℕ) × Contains qs q × Leads f os n q 0 m

in_list : (q : ℕ) (qs : List ℕ) (p : ℕ) → Contains (q ∷ qs) p → (q ≡ p) ⊎ Contains qs p
in_list q qs p (zero, b, e) = inl e
in_list q qs p (suc k, b, e) = inr (k, omega arith, e)

over_least : {f : FuncRecord} {os : List (List ℕ)} {t : Table} → IsTable f os t → (n : ℕ) (qs : List ℕ) (P : ℕ → Type 0) (o : Option ℕ) → ((q : ℕ) → Contains qs q → q < length f.blocks) → IsLeast P o
    → IsLeast (λ m. P m ⊎ IsOver f os n qs m) (fold (nearer t.live n) o qs)
over_least {f} {os} {t} h n [] P o inside least =
    least_same P (λ m. P m ⊎ IsOver f os n [] m) o (λ m p. inl p) (λ m x. ⊎_elim (λ p. p) (λ (q, (k, b, e), walk). absurd (omega arith)) x) least
over_least {f} {os} {t} h n (q ∷ qs) P o inside least =
    least_same (λ m. (P m ⊎ Leads f os n q 0 m) ⊎ IsOver f os n qs m) (λ m. P m ⊎ IsOver f os n (q ∷ qs) m) (fold (nearer t.live n) (nearer t.live n o q) qs) to back
    (over_least h n qs (λ m. P m ⊎ Leads f os n q 0 m) (nearer t.live n o q) (λ p (k, b, e). inside p (suc k, omega arith, e))
    (lesser_least P (Leads f os n q 0) o (distance_in (get_or t.live q []) n) least (distance_least h n q (inside q (0, omega arith, refl)))))
  where
    to : (m : ℕ) → (P m ⊎ Leads f os n q 0 m) ⊎ IsOver f os n qs m → P m ⊎ IsOver f os n (q ∷ qs) m
    to m x = ⊎_elim
        (λ y. ⊎_elim (λ p. inl p) (λ walk. inr (q, (0, omega arith, refl), walk)) y)
        (λ (p, (k, b, e), walk). inr (p, (suc k, omega arith, e), walk))
        x

    back : (m : ℕ) → P m ⊎ IsOver f os n (q ∷ qs) m → (P m ⊎ Leads f os n q 0 m) ⊎ IsOver f os n qs m
    back m x = ⊎_elim
        (λ p. inl (inl p))
        (λ (p, c, walk). ⊎_elim
        (λ (same : q ≡ p). inl (inr (subst (λ (j : ℕ). Leads f os n j 0 m) (sym same) walk)))
        (λ rest. inr (p, rest, walk))
        (in_list q qs p c))
        x

pub behind_least : {f : FuncRecord} {os : List (List ℕ)} {t : Table} → IsTable f os t → (n i : ℕ) → IsLeast (IsOver f os n (get_or t.edges i [])) (least_behind t i n)
behind_least {f} {os} {t} h n i =
    least_same (λ m. ⊥ ⊎ IsOver f os n (get_or t.edges i []) m) (IsOver f os n (get_or t.edges i [])) (least_behind t i n) (λ m x. ⊎_elim (λ no. absurd no) (λ o. o) x) (λ m o. inr o)
    (over_least h n (get_or t.edges i []) (λ m. ⊥) None (λ q c. let (a, b, at, ab, k) = (h.edges i q).0 c in slice_get_within f.blocks q b ab) (λ m no. absurd no))

-- what is told by what comes first
pub told_least : {f : FuncRecord} {os : List (List ℕ)} {t : Table} → IsTable f os t → (n i k : ℕ) → i < length f.blocks → k ≤ length (order_at os i) → (s : Sight) → Sees f os n i k s
    → IsLeast (Leads f os n i k) (told t i n (count_to f os i k) s)
told_least {f} {os} {t} h n i k inside low (sees.Use l) (first, used, unused, free) =
    let at : count_at t.counts i l ≡ Some (count_to f os i l) = count_is f os t.counts h.counts i l (omega (arith, h.given.size)) (used_within f os n i l used) in
    subst (λ (o : Option ℕ). IsLeast (Leads f os n i k) (option_map (steps_between (count_to f os i k)) o)) (sym at) (
      ends_at f os n i k l first used free,
      λ m walk. ⊎_elim
          (λ (j, a, there, on, sum).
          let later : l ≤ j = ⊎_elim (λ (less : j < l). absurd (unused j a less there)) (λ (more : l ≤ j). more) (cases_lt j l) in
          let grows : count_to f os i l ≤ count_to f os i j = cost_grows f (order_at os i) l j later in
          omega (arith, sum))
          (λ (on, (j, p, next, rest, sum)).
          let grows : count_to f os i l ≤ count_to f os i (length (order_at os i)) = cost_grows f (order_at os i) l (length (order_at os i)) (used_within f os n i l used) in
          omega (arith, sum))
          (comes f os n i k m walk),
    )
told_least {f} {os} {t} h n i k inside low sees.Definition (d, first, entry, unused) = λ m walk. ⊎_elim
    (λ (j, a, there, on, sum). ⊎_elim
    (λ (less : j < d + 1). unused j a less there)
    (λ (more : d + 1 ≤ j). on d first (omega arith) entry)
    (cases_lt j (d + 1)))
    (λ (on, (j, p, next, rest, sum)). on (d + 1) d first (omega arith) entry)
    (comes f os n i k m walk)
told_least {f} {os} {t} h n i k inside low sees.End (unused, free) =
    least_more (IsOver f os n (get_or t.edges i [])) (Leads f os n i k) (steps_between (count_to f os i k) (total_at t.counts i)) (least_behind t i n)
    (λ p (q, c, walk).
    subst (λ (e : ℕ). Leads f os n i k (steps_between (count_to f os i k) e + p)) (sym total) (leaves_by f os n i k q p low free ((h.edges i q).0 c) walk))
    (λ m walk. ⊎_elim
    (λ (j, a, there, on, sum). absurd (unused (j + 1) j a (omega arith) there))
    (λ (on, (j, p, next, rest, sum)). (p, (j, (h.edges i j).1 next, rest), sum ∙ ap (λ e. steps_between (count_to f os i k) e + p) (sym total)))
    (comes f os n i k m walk))
    (behind_least h n i)
  where
    total : total_at t.counts i ≡ count_to f os i (length (order_at os i))
    total = last_is f (order_at os i) (get_or t.counts i []) (h.counts.each i (omega (arith, h.given.size)))

-- what is said of the next use
next_is : (f : FuncRecord) (os : List (List ℕ)) (n i k : ℕ) (o : Option ℕ) → IsLeast (Leads f os n i k) o → NextUseIs f os n i k o
next_is f os n i k None least = λ (m, walk). least m walk
next_is f os n i k (Some m) least = record { leads = least.0; least = least.1 }

pub next_at_is : {f : FuncRecord} {os : List (List ℕ)} {t : Table} → IsTable f os t → (n i k : ℕ) → i < length f.blocks → k ≤ length (order_at os i) → NextUseIs f os n i k (next_at t k n i)
next_at_is {f} {os} {t} h n i k inside low =
    let at : count_at t.counts i k ≡ Some (count_to f os i k) = count_is f os t.counts h.counts i k (omega (arith, h.given.size)) low in
    subst (λ (o : Option ℕ). NextUseIs f os n i k (option_and_then (λ before. told t i n before (look t i k n)) o)) (sym at)
    (next_is f os n i k (told t i n (count_to f os i k) (look t i k n)) (told_least h n i k inside low (look t i k n) (look_sees h i k n)))

pub next_in_is : {f : FuncRecord} {os : List (List ℕ)} {t : Table} → IsTable f os t → (n i k : ℕ) (b : BlockRecord) → slice_get f.blocks i ≡ Some b → k ≤ length (order_at os i) → NextUseIs f os n i k (next_in t b.id k n)
unfolding next_in
next_in_is {f} {os} {t} h n i k b at low =
    subst (λ (o : Option ℕ). NextUseIs f os n i k (option_and_then (next_at t k n) o)) (sym (place_is f os (place t.places) h.given h.places i b at))
    (next_at_is h n i k (slice_get_within f.blocks i b at) low)

-- a table gives the next uses at all places
pub table_next_uses : (f : FuncRecord) (os : List (List ℕ)) (t : Table) → IsTable f os t → AllNextUses f os (next_in t)
unfolding next_in
table_next_uses f os t h = record {
  each = λ i n k v (b, at, id, low). subst (λ (m : ℕ). NextUseIs f os v i k (next_in t m k v)) id (next_in_is h v i k b at low);
  outside = λ n k v away. outside n k v away (place t.places n) refl;
}
  where
    past : (q k : ℕ) → length (order_at os q) < k → q < length os → count_at t.counts q k ≡ None
    past q k more inside =
        let row : slice_get t.counts q ≡ Some (get_or t.counts q []) = slice_get-get_or t.counts q [] (omega (arith, h.counts.size)) in
        ap (λ (o : Option (List ℕ)). option_and_then (λ r. slice_get r k) o) row ∙ slice_get_past (get_or t.counts q []) k (omega (arith, (h.counts.each q inside).size))

    outside : (n k v : ℕ) → ((i : ℕ) → ¬ IsPlaced f os i n k) → (o : Option ℕ) → place t.places n ≡ o → option_and_then (next_at t k v) o ≡ None
    outside n k v away None e = refl
    outside n k v away (Some q) e =
        let (b, at, id) = h.places.right n q e in
        let inside : q < length f.blocks = slice_get_within f.blocks q b at in
        ⊎_elim
        (λ (more : length (order_at os q) < k). ap (λ o. option_and_then (λ before. told t q v before (look t q k v)) o) (past q k more (omega (arith, h.given.size))))
        (λ (low : k ≤ length (order_at os q)). absurd (away q (b, at, id, low)))
        (cases_lt (length (order_at os q)) k)

-- next uses are unique
pub next_alone : (f : FuncRecord) (os : List (List ℕ)) (n i k : ℕ) (o p : Option ℕ) → NextUseIs f os n i k o → NextUseIs f os n i k p → o ≡ p
next_alone f os n i k None None a b = refl
next_alone f os n i k None (Some m) a b = absurd (a (m, b.leads))
next_alone f os n i k (Some l) None a b = absurd (b (l, a.leads))
next_alone f os n i k (Some l) (Some m) a b =
    let low : l ≤ m = a.least m b.leads in
    let high : m ≤ l = b.least l a.leads in
    let same : l ≡ m = omega arith in
    ap Some same

-- whether the place is there
placed_or : (f : FuncRecord) (os : List (List ℕ)) (n k c : ℕ) → ((i : ℕ) × IsPlaced f os i n k) ⊎ ((i : ℕ) → i < c → ¬ IsPlaced f os i n k)
placed_or f os n k zero = inr (λ i l. absurd (omega arith))
placed_or f os n k (suc c) = ⊎_elim
    (λ there. inl there)
    (λ none. go none (slice_get f.blocks c) refl)
    (placed_or f os n k c)
  where
    but : ((i : ℕ) → i < c → ¬ IsPlaced f os i n k) → ¬ IsPlaced f os c n k → (i : ℕ) → i < suc c → ¬ IsPlaced f os i n k
    but none last i l here = ⊎_elim (λ (low : i < c). none i low here) (λ (high : c ≤ i). let same : i ≡ c = omega arith in last (subst (λ (j : ℕ). IsPlaced f os j n k) same here)) (cases_lt i c)

    go : ((i : ℕ) → i < c → ¬ IsPlaced f os i n k) → (o : Option BlockRecord) → slice_get f.blocks c ≡ o → ((i : ℕ) × IsPlaced f os i n k) ⊎ ((i : ℕ) → i < suc c → ¬ IsPlaced f os i n k)
    go none None e = inr (but none (λ (b, at, id, low). none-some b (sym e ∙ at)))
    go none (Some b) e = ⊎_elim
        (λ (same : b.id ≡ n). ⊎_elim
        (λ (more : length (order_at os c) < k). inr (but none (λ (d, at, id, low). absurd (omega arith))))
        (λ (low : k ≤ length (order_at os c)). inl (c, (b, e, same, low)))
        (cases_lt (length (order_at os c)) k))
        (λ (apart : b.id ≡ n → ⊥). inr (but none (λ (d, at, id, low). let one : b ≡ d = same_Some b d (sym e ∙ at) in apart (ap (λ (x : BlockRecord). x.id) one ∙ id))))
        (cases_eq b.id n)

pub next_uses_alone : (f : FuncRecord) (os : List (List ℕ)) (l m : ℕ → ℕ → ℕ → Option ℕ) → AllNextUses f os l → AllNextUses f os m → l ≡ m
next_uses_alone f os l m a b = fun_ext (λ n. fun_ext (λ k. fun_ext (λ v. ⊎_elim
    (λ (i, here). next_alone f os v i k (l n k v) (m n k v) (a.each i n k v here) (b.each i n k v here))
    (λ none.
    let away : (i : ℕ) → ¬ IsPlaced f os i n k = λ i (c, at, id, low). none i (slice_get_within f.blocks i c at) (c, at, id, low) in
    a.outside n k v away ∙ sym (b.outside n k v away))
    (placed_or f os n k (length f.blocks)))))

-- where what is told is what the table has
pub next_told : (t : Table) (b k n : ℕ) (r : Option ℕ) → r ≡ next_in t b k n → (f : FuncRecord) (os : List (List ℕ)) (i : ℕ) (block : BlockRecord) → IsTable f os t → slice_get f.blocks i ≡ Some block → block.id ≡ b
    → k ≤ length (order_at os i) → NextUseIs f os n i k r
next_told t b k n r is f os i block h at id low =
    subst (λ (o : Option ℕ). NextUseIs f os n i k o) (sym (is ∙ ap (λ m. next_in t m k n) (sym id))) (next_in_is h n i k block at low)

-- where nothing is at the number of a block
pub next_nowhere : (t : Table) (b k n : ℕ) → place t.places b ≡ None → None ≡ next_in t b k n
unfolding next_in
next_nowhere t b k n e = sym (ap (λ o. option_and_then (next_at t k n) o) e)

pub next_there : (t : Table) (b k n i : ℕ) → place t.places b ≡ Some i → next_at t k n i ≡ next_in t b k n
unfolding next_in
next_there t b k n i e = sym (ap (λ o. option_and_then (next_at t k n) o) e)

-- the rows as lists of numbers
pub live_rows_are : {f : FuncRecord} {os : List (List ℕ)} {t : Table} → IsTable f os t → AreLive f os (map values_of t.live)
live_rows_are {f} {os} {t} h = record {
  size = length-map t.live values_of ∙ h.live.size;
  rising = λ i. subst (λ (us : List ℕ). AllPairs (λ m n. m < n) us) (sym (at i)) (rises (get_or t.live i []) (t.rising i));
  each = λ i n inside. subst (λ (us : List ℕ). Contains us n ↔ IsLive f os n i 0) (sym (at i)) ((row_is h i inside).live n);
}
  where
    at : (i : ℕ) → get_or (map values_of t.live) i [] ≡ values_of (get_or t.live i [])
    at i = ⊎_elim
        (λ (low : i < length t.live). get_or-map values_of t.live i [] [] low)
        (λ (high : length t.live ≤ i). get_or_past (map values_of t.live) i [] (omega (arith, length-map t.live values_of)) ∙ ap values_of (sym (get_or_past t.live i [] high)))
        (cases_lt i (length t.live))

    rises : (row : List LiveValue) → IsRising row → AllPairs (λ m n. m < n) (values_of row)
    rises row rising i j d low high =
        let long : length (values_of row) ≡ length row = length-map row (λ (x : LiveValue). x.value) in
        let zero_value : LiveValue = live_value d 0 in
        let first : get_or (values_of row) i d ≡ (get_or row i zero_value).value = get_or-map (λ (x : LiveValue). x.value) row i zero_value d (omega arith) in
        let second : get_or (values_of row) j d ≡ (get_or row j zero_value).value = get_or-map (λ (x : LiveValue). x.value) row j zero_value d (omega arith) in
        let less : (get_or row i zero_value).value < (get_or row j zero_value).value = rising i j zero_value low (omega arith) in
        omega arith
