-- What a search from the uses of a value finds are the walks from the starts of blocks.
use Rattle.std.proofs.Common.{◌≡◌, ◌≢◌, ◌∙◌, sym, refl, ap, subst, ℕ, zero, suc, ◌+◌, ◌<◌, ◌≤◌, ◌↔◌, Bool, cond, List, [], length, get_or, map, Option, None, Some, ⊎_elim, arith}
use Rattle.std.specs.List.{Contains}
use Rattle.std.specs.Option.{option_and_then, unwrap_or}
use Rattle.std.proofs.lemmas.Bool.{cases_lt, eq-eqb, ne_eqb}
use Rattle.std.proofs.lemmas.List.{get_or-map, get_or_past}
use Rattle.std.proofs.lemmas.Option.{none-some, same_Some, slice_get_past, slice_get_within, slice_get-get_or}
use Rattle.std.specs.List.{slice_get}
use Rattle.bk_func.specs.Records.{FuncRecord}
use Rattle.bk_live.specs.declared.homes.Spot.{Spot}
use Rattle.bk_live.specs.declared.search.Start.{Start}
use Rattle.bk_live.specs.declared.uses.Use.{Use}
use Rattle.bk_live.specs.Counts.{AreCounts, count_at, length_of, steps_between}
use Rattle.bk_live.specs.Homes.{IsBehind, spot}
use Rattle.bk_live.specs.Live.{HasSuccessor, IsEntry, IsUsedAt, Leads, here, leave, order_at, pass}
use Rattle.bk_live.specs.Prepared.{IsPrepared, IsStartOf, home_or, start_of}
use Rattle.bk_live.specs.Search.{Found, from, onward, length_at}
use Rattle.bk_live.specs.Seen.{IsFree, LeadBack}
use Rattle.bk_live.proofs.Counting.{last_is}
use Rattle.bk_live.proofs.Using.{home_is, used_to, used_from}
use Rattle.bk_live.proofs.Walking.{comes, count_to, ends_at, leaves_by, used_within}

-- the starts and lengths by which a value is searched
pub record IsScanned (f : FuncRecord) (os : List (List ℕ)) (n : ℕ) (ws : List ℕ) (avoided : ℕ) (starts : List Start) : Type 0 where
  pub begun : (s : Start) → Contains starts s → Leads f os n s.place 0 s.distance
  pub used : (i l : ℕ) → IsUsedAt f os n i l → IsFree os n i 0 l → (s : Start) × Contains starts s × (s.place ≡ i) × (s.distance ≡ steps_between 0 (count_to f os i l))
  pub free : (i : ℕ) → i ≢ avoided → (l : ℕ) → IsFree os n i 0 l
  pub away : (i : ℕ) → i < length f.blocks → ((l : ℕ) → IsFree os n i 0 l) → i ≢ avoided
  pub long : (i : ℕ) → i < length f.blocks → get_or ws i 0 ≡ steps_between 0 (count_to f os i (length (order_at os i)))

-- the lengths of roads to places that are not avoided
road_apart : (ws : List ℕ) (avoided q w : ℕ) → length_at ws avoided q ≡ Some w → q ≢ avoided
road_apart ws avoided q w e same = none-some w (sym (ap (λ (b : Bool). cond b None (Some (get_or ws q 0))) (eq-eqb q avoided same)) ∙ e)

road_is : (ws : List ℕ) (avoided q : ℕ) → q ≢ avoided → length_at ws avoided q ≡ Some (get_or ws q 0)
road_is ws avoided q apart = ap (λ (b : Bool). cond b None (Some (get_or ws q 0))) (ne_eqb q avoided apart)

-- what is found is a walk
pub found_leads : (f : FuncRecord) (os : List (List ℕ)) (n : ℕ) (es : List (List ℕ)) (ws : List ℕ) (avoided : ℕ) (starts : List Start) → LeadBack f es → IsScanned f os n ws avoided starts
    → (i d : ℕ) → Found es ws avoided starts i d → Leads f os n i 0 d
found_leads f os n es ws avoided starts back scan _ _ (from s c inside) = scan.begun s c
found_leads f os n es ws avoided starts back scan _ _ (onward p q d w found edge inside at) =
    let walk : Leads f os n p 0 d = found_leads f os n es ws avoided starts back scan p d found in
    let apart : q ≢ avoided = road_apart ws avoided q w at in
    let is : get_or ws q 0 ≡ w = same_Some (get_or ws q 0) w (sym (road_is ws avoided q apart) ∙ at) in
    let long : get_or ws q 0 ≡ steps_between 0 (count_to f os q (length (order_at os q))) = scan.long q (omega (arith, back.size)) in
    let sums : steps_between 0 (count_to f os q (length (order_at os q))) + d ≡ d + w = omega arith in
    subst (λ (m : ℕ). Leads f os n q 0 m) sums (leaves_by f os n q 0 p d (omega arith) (scan.free q apart) ((back.edge q p).0 edge) walk)

-- and each walk is found
pub walks_found : (f : FuncRecord) (os : List (List ℕ)) (n : ℕ) (es : List (List ℕ)) (ws : List ℕ) (avoided : ℕ) (starts : List Start) → LeadBack f es → IsScanned f os n ws avoided starts
    → (room i m : ℕ) → i < length f.blocks → m < room → Leads f os n i 0 m → (d : ℕ) × Found es ws avoided starts i d × d ≤ m
walks_found f os n es ws avoided starts back scan zero i m inside low walk = absurd (omega arith)
walks_found f os n es ws avoided starts back scan (suc room) i m inside low walk = ⊎_elim
    (λ (l, first, used, free, sum).
    let (s, c, at, is) = scan.used i l used free in
    let found : Found es ws avoided starts s.place s.distance = from s c (subst (λ (j : ℕ). j < length es) (sym at) (omega (arith, back.size))) in
    (s.distance, subst (λ (j : ℕ). Found es ws avoided starts j s.distance) at found, omega (arith, is, sum)))
    (λ (free, (j, p, next, rest, sum)).
    let there : j < length f.blocks = ends_there j next in
    let long : get_or ws i 0 ≡ steps_between 0 (count_to f os i (length (order_at os i))) = scan.long i inside in
    let (d, found, short) = walks_found f os n es ws avoided starts back scan room j p there (omega (arith, sum)) rest in
    let apart : i ≢ avoided = scan.away i inside free in (
      d + get_or ws i 0,
      onward j i d (get_or ws i 0) found ((back.edge i j).1 next) (omega (arith, back.size)) (road_is ws avoided i apart),
      omega (arith, sum, short),
    ))
    (comes f os n i 0 m walk)
  where
    ends_there : (j : ℕ) → HasSuccessor f i j → j < length f.blocks
    ends_there j (a, b, at, ab, c) = slice_get_within f.blocks j b ab

-- the first block of a walk is there
pub leads_within : (f : FuncRecord) (os : List (List ℕ)) (n i k m : ℕ) → length os ≡ length f.blocks → Leads f os n i k m → i < length f.blocks
leads_within f os n _ _ _ size (here i k used) = ⊎_elim
    (λ (x, entry, takes). entry_within os size i k x entry)
    (λ (end, (b, at, how)). slice_get_within f.blocks i b at)
    used
  where
    entry_within : (os : List (List ℕ)) → length os ≡ length f.blocks → (i k x : ℕ) → IsEntry os i k x → i < length f.blocks
    entry_within os size i k x e = ⊎_elim
        (λ (b : i < length os). omega arith)
        (λ (a : length os ≤ i). absurd (none-some x (sym (slice_get_past [] k (omega arith)) ∙ subst (λ (us : List ℕ). slice_get us k ≡ Some x) (get_or_past os i [] a) e)))
        (cases_lt i (length os))
leads_within f os n _ _ _ size (pass i k x m entry apart walk) = leads_within f os n i (k + 1) m size walk
leads_within f os n _ _ _ size (leave i j k m end (a, b, at, ab, c) walk) = slice_get_within f.blocks i a at

-- the count before a place
pub count_is : (f : FuncRecord) (os counts : List (List ℕ)) → AreCounts f os counts → (i k : ℕ) → i < length os → k ≤ length (order_at os i) → count_at counts i k ≡ Some (count_to f os i k)
count_is f os counts are i k inside low =
    let row : slice_get counts i ≡ Some (get_or counts i []) = slice_get-get_or counts i [] (omega (arith, are.size)) in
    ap (λ (o : Option (List ℕ)). option_and_then (λ r. slice_get r k) o) row ∙ (are.each i inside).each k low

-- the searches from the uses of a function
pub scanned : {f : FuncRecord} {os : List (List ℕ)} {h : ℕ → Option Spot} {p : ℕ → Option ℕ} {us : List Use} → IsPrepared f os h p us → (counts : List (List ℕ)) → AreCounts f os counts
    → (es : List (List ℕ)) → LeadBack f es → (ws : List ℕ) → ws ≡ map length_of counts → (n : ℕ) (starts : List Start)
    → ((s : Start) → Contains starts s ↔ IsStartOf h counts us n s) → IsScanned f os n ws (home_or (h n) (length es)) starts
scanned {f} {os} {h} {p} {us} r counts are es back ws lengths n starts is = record {
  begun = λ s c.
      let (u, cu, value, ahead, at) = (is s).0 c in
      let used : IsUsedAt f os n u.spot.block u.spot.entry = subst (λ (m : ℕ). IsUsedAt f os m u.spot.block u.spot.entry) value (used_to r u cu) in
      let free : IsFree os n u.spot.block 0 u.spot.entry = λ j a b e.
      ahead (spot u.spot.block j, home_is r u.spot.block j n e, refl, b) in
      subst (λ (t : Start). Leads f os n t.place 0 t.distance) at
      (subst (λ (w : ℕ). Leads f os n u.spot.block 0 w) (sym (starts_at u.spot.block u.spot.entry used)) (ends_at f os n u.spot.block 0 u.spot.entry (omega arith) used free));
  used = λ i l used free.
      let ahead : ¬ IsBehind h n (spot i l) = λ (t, at, block, before).
      free t.entry (omega arith) before (subst (λ (j : ℕ). IsEntry os j t.entry n) block (r.homes.right n t at)) in
      (start_of counts (spot i l), (is (start_of counts (spot i l))).1 (record { value = n; spot = spot i l }, used_from r n i l used, refl, ahead, refl), refl, starts_at i l used);
  free = λ i apart l j a b e. apart (sym (ap (λ o. home_or o (length es)) (home_is r i j n e)));
  away = λ i inside free. away i inside free (h n) refl;
  long = λ i inside.
      let at : get_or ws i 0 ≡ length_of (get_or counts i []) = ap (λ us. get_or us i 0) lengths ∙ get_or-map length_of counts i [] 0 (omega (arith, are.size, r.given.size)) in
      at ∙ ap (steps_between 0) (last_is f (order_at os i) (get_or counts i []) (are.each i (omega (arith, r.given.size))));
}
  where
    starts_at : (i l : ℕ) → IsUsedAt f os n i l → steps_between 0 (unwrap_or (count_at counts i l) 0) ≡ steps_between 0 (count_to f os i l)
    starts_at i l used =
        let inside : i < length f.blocks = leads_within f os n i l 1 r.given.size (here i l used) in
        ap (λ o. steps_between 0 (unwrap_or o 0)) (count_is f os counts are i l (omega (arith, r.given.size)) (used_within f os n i l used))

    away : (i : ℕ) → i < length f.blocks → ((l : ℕ) → IsFree os n i 0 l) → (o : Option Spot) → h n ≡ o → i ≢ home_or o (length es)
    away i inside free None is same = absurd (omega (arith, back.size))
    away i inside free (Some t) is same = free (t.entry + 1) t.entry (omega arith) (omega arith) (subst (λ (j : ℕ). IsEntry os j t.entry n) (sym same) (r.homes.right n t is))
