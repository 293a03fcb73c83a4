-- That the edges of groups and of what is taken are those of values that come right before others.
use Rattle.std.proofs.Common.{◌≡◌, ◌∙◌, sym, ap, subst, ℕ, ◌+◌, ◌-◌, ◌<◌, ◌≤◌, List, [], length, get_or, Option, None, Some, inl, inr, ⊎_elim, arith}
use Rattle.std.specs.List.{Contains, slice_get}
use Rattle.std.proofs.lemmas.Bool.{cases_lt}
use Rattle.std.proofs.lemmas.List.{get_or_past, length-replicate}
use Rattle.std.proofs.lemmas.List.Elements.{Contains-get_or}
use Rattle.std.proofs.lemmas.Option.{same_Some, slice_get_within}
use Rattle.bk_func.specs.Records.{ValueRecord, BlockRecord}
use Rattle.bk_func.specs.Form.Before.{IsLoad, IsNilCheck, IsTakenBy, Needs}
use Rattle.bk_places.specs.declared.order.Lists.{Lists}
use Rattle.bk_places.specs.declared.role.Role.TheVariants.{User}
use Rattle.bk_places.proofs.Elements.{at_contains, at_some, contains_at, none_in}
use Rattle.bk_places.proofs.Leading.{AreRightBefore, before_in, check_leads, index_of, line_leads, right_edge}
use Rattle.bk_places.specs.Order.{Follows, HasRole, IsAsked, IsEnd, IsLastBefore, IsRightBefore}
use Rattle.bk_places.specs.Search.{IsEdge, Leads, Path, here}
use Rattle.bk_sched.specs.Arranged.{AreListed, AreLists, AreTakes, IsNext, IsOrder}
use Rattle.bk_sched.specs.Named.{AreNamed}
use Rattle.bk_sched.specs.Order.{Checks, ComesBefore, HasOwnNumbers, Names, argument, checks, needed, state, unneeded}
use Rattle.bk_sched.proofs.Needing.{edge_taken, listed_from, listed_to, needs_path, path_needs, taken_edge}

-- no value is a check and a load
not_both : (v : ValueRecord) → IsNilCheck v → IsLoad v → ⊥
not_both v check load = ⊎_elim
    (λ a. ⊎_elim (λ x. absurd (cc)) (λ r. ⊎_elim (λ y. absurd (cc)) (λ z. absurd (cc)) r) load)
    (λ s. ⊎_elim
    (λ b. ⊎_elim (λ x. absurd (cc)) (λ r. ⊎_elim (λ y. absurd (cc)) (λ z. absurd (cc)) r) load)
    (λ c. ⊎_elim (λ x. absurd (cc)) (λ r. ⊎_elim (λ y. absurd (cc)) (λ z. absurd (cc)) r) load)
    s)
    check

-- the value of a member of a group
record IsMember (b : BlockRecord) (gs : List (Option ℕ)) (P : ValueRecord → Type 0) (g p : ℕ) (v : ValueRecord) : Type 0 where
  pub at : slice_get b.values p ≡ Some v
  pub group : get_or gs p None ≡ Some g
  pub fact : P v

listed_value : (b : BlockRecord) (gs : List (Option ℕ)) (P : ValueRecord → Type 0) (es : List (List ℕ)) → AreListed b.values gs P es → (g p : ℕ) → Contains (get_or es g []) p
    → (v : ValueRecord) × IsMember b gs P g p v
listed_value b gs P es listed g p c = let (v, e, group, fact) = (listed.each g p).0 c in (v, record { at = e; group = group; fact = fact })

member : (b : BlockRecord) (gs : List (Option ℕ)) (P : ValueRecord → Type 0) (es : List (List ℕ)) → AreListed b.values gs P es → (g p : ℕ) (v : ValueRecord) → slice_get b.values p ≡ Some v
    → Contains (get_or es g []) p → IsMember b gs P g p v
member b gs P es listed g p v e c =
    let (u, eu, group, fact) = (listed.each g p).0 c in
    record { at = e; group = group; fact = subst (λ (x : ValueRecord). P x) (same_Some u v (sym eu ∙ e)) fact }

-- a member of a group names the state of another
beside : (b : BlockRecord) (ns : List ℕ) (gs : List (Option ℕ)) → AreNamed b ns gs → (P Q : ValueRecord → Type 0) (g p q s : ℕ) (u v : ValueRecord) → IsMember b gs P g p u → IsMember b gs Q g q v → Names b u s
    → Contains b.values v × Names b v s
beside b ns gs named P Q g p q s u v x y names = (contains_at b.values q v y.at, named.same p q g s u v x.at y.at x.group y.group names)

-- a value that names the state of the group is a member
joins : (b : BlockRecord) (ns : List ℕ) (gs : List (Option ℕ)) → AreNamed b ns gs → (P Q : ValueRecord → Type 0) (es : List (List ℕ)) → AreListed b.values gs Q es → (g p q s : ℕ) (u v : ValueRecord)
    → IsMember b gs P g p u → slice_get b.values q ≡ Some v → Names b u s → Names b v s → Q v → Contains (get_or es g []) q
joins b ns gs named P Q es listed g p q s u v x eq nu nv fact =
    let (h, gp, gq) = named.one p q s u v x.at eq nu nv in
    let same : h ≡ g = same_Some h g (sym gp ∙ x.group) in
    (listed.each g q).1 (v, eq, gq ∙ ap Some same, fact)

-- a check of the state that needs the value stands in the list of checks, and a path leads from it
check_path : (b : BlockRecord) (ns : List ℕ) (gs : List (Option ℕ)) → AreNamed b ns gs → (es : List (List ℕ)) → AreTakes b.values es → (l : Lists) → AreLists b.values gs l → (P : ValueRecord → Type 0) (g p q s : ℕ)
    (u v x : ValueRecord) → IsMember b gs P g p u → Names b u s → slice_get b.values q ≡ Some v → Checks b x s → Needs b x v
    → (r k : ℕ) × (slice_get b.values r ≡ Some x) × k < length (get_or l.checks g []) × (get_or (get_or l.checks g []) k 0 ≡ r) × Path es (length es) r q
check_path b ns gs named es taking l lists P g p q s u v x m names eq (inside, check, named_x) needs =
    let (r, er) = at_contains b.values x inside in
    let c = joins b ns gs named P IsNilCheck l.checks lists.checks g p r s u x m er names named_x check in
    let (k, low, at) = index_of (get_or l.checks g []) r c in
    (r, k, er, low, at, needs_path b es taking x v needs r q er eq)

-- what a group asks comes right before
state_comes : (b : BlockRecord) (ns : List ℕ) (gs : List (Option ℕ)) → AreNamed b ns gs → (l : Lists) → AreLists b.values gs l → (g p q : ℕ) (u : ValueRecord) → slice_get b.values p ≡ Some u
    → Contains (get_or l.users g []) p → Contains (get_or l.nexts g []) q → (v : ValueRecord) × (slice_get b.values q ≡ Some v) × ComesBefore b u v
state_comes b ns gs named l lists g p q u ep cp cq =
    let x = member b gs (HasRole User) l.users lists.users g p u ep cp in
    let (v, y) = listed_value b gs IsNext l.nexts lists.nexts g q cq in
    let (s, names) = named.named p g u ep x.group in
    let (inside, named_v) = beside b ns gs named (HasRole User) IsNext g p q s u v x y names in
    (v, y.at, state u v s (contains_at b.values p u ep) x.fact names inside y.fact named_v)

check_comes : (b : BlockRecord) (ns : List ℕ) (gs : List (Option ℕ)) → AreNamed b ns gs → (l : Lists) → AreLists b.values gs l → (g p q : ℕ) (u : ValueRecord) → slice_get b.values p ≡ Some u
    → Follows (get_or l.checks g []) p q → (v : ValueRecord) × (slice_get b.values q ≡ Some v) × ComesBefore b u v
check_comes b ns gs named l lists g p q u ep (k, low, at_p, at_q) =
    let xs = get_or l.checks g [] in
    let cp : Contains xs p = subst (λ (j : ℕ). Contains xs j) at_p (Contains-get_or xs k 0 (omega (arith, low))) in
    let cq : Contains xs q = subst (λ (j : ℕ). Contains xs j) at_q (Contains-get_or xs (k + 1) 0 low) in
    let x = member b gs IsNilCheck l.checks lists.checks g p u ep cp in
    let (v, y) = listed_value b gs IsNilCheck l.checks lists.checks g q cq in
    let (s, names) = named.named p g u ep x.group in
    let (inside, named_v) = beside b ns gs named IsNilCheck IsNilCheck g p q s u v x y names in
    let less : p < q = omega (arith, lists.checks.rising g k (k + 1) (omega arith) low, at_p, at_q) in
    (v, y.at, checks u v s (contains_at b.values p u ep, x.fact, names) (inside, y.fact, named_v) (listed_from b p q u v ep y.at less))

load_comes : (b : BlockRecord) → HasOwnNumbers b → (ns : List ℕ) (gs : List (Option ℕ)) → AreNamed b ns gs → (es : List (List ℕ)) → AreTakes b.values es → (l : Lists) → AreLists b.values gs l → (g p q : ℕ)
    (u : ValueRecord) → slice_get b.values p ≡ Some u → Contains (get_or l.loads g []) q → IsLastBefore es (get_or l.checks g []) p q
    → (v : ValueRecord) × (slice_get b.values q ≡ Some v) × ComesBefore b u v
load_comes b own ns gs named es taking l lists g p q u ep cq (k, low, at_k, end) =
    let cp : Contains xs p = subst (λ (j : ℕ). Contains xs j) at_k (Contains-get_or xs k 0 low) in
    let x = member b gs IsNilCheck l.checks lists.checks g p u ep cp in
    let (v, y) = listed_value b gs IsLoad l.loads lists.loads g q cq in
    let (s, names) = named.named p g u ep x.group in
    let (inside, named_v) = beside b ns gs named IsNilCheck IsLoad g p q s u v x y names in
    (v, y.at, ⊎_elim (λ (less : k + 1 < length xs). waits s x v y names inside named_v less) (λ (over : length xs ≤ k + 1). follows s x v y names inside named_v over) (cases_lt (k + 1) (length xs)))
  where
    xs : List ℕ
    xs = get_or l.checks g []

    follows : (s : ℕ) → IsMember b gs IsNilCheck g p u → (v : ValueRecord) → IsMember b gs IsLoad g q v → Names b u s → Contains b.values v → Names b v s → length xs ≤ k + 1 → ComesBefore b u v
    follows s x v y names inside named_v over =
        unneeded u v s (contains_at b.values p u ep, x.fact, names) (inside, y.fact, named_v)
        (λ z check needs.
        let (r, j, er, lj, aj, path) = check_path b ns gs named es taking l lists IsNilCheck g p q s u v z x names y.at check needs in
        end.free j (omega (arith, lj, over)) (subst (λ (n : ℕ). Path es (length es) n q) (sym aj) path))

    waits : (s : ℕ) → IsMember b gs IsNilCheck g p u → (v : ValueRecord) → IsMember b gs IsLoad g q v → Names b u s → Contains b.values v → Names b v s → k + 1 < length xs → ComesBefore b u v
    waits s x v y names inside named_v less =
        let t = get_or xs (k + 1) 0 in
        let (n, z) = listed_value b gs IsNilCheck l.checks lists.checks g t (Contains-get_or xs (k + 1) 0 less) in
        let (within, named_n) = beside b ns gs named IsNilCheck IsNilCheck g p t s u n x z names in
        let (w, ew, h) = path_needs b es taking t q (end.met less) n z.at in
        let same : w ≡ v = same_Some w v (sym ew ∙ y.at) in
        let needs : Needs b n v = ⊎_elim
        (λ (e : n ≡ w). absurd (not_both n z.fact (subst IsLoad (sym (e ∙ same)) y.fact)))
        (λ r. subst (λ (o : ValueRecord). Needs b n o) same r)
        h in
        needed u v n s (contains_at b.values p u ep, x.fact, names) (inside, y.fact, named_v) (within, z.fact, named_n) needs
        (λ o check more listed.
        let (r, j, er, lj, aj, path) = check_path b ns gs named es taking l lists IsNilCheck g p q s u v o x names y.at check more in
        let early : r < t = listed_to b own r t o n er z.at listed in
        let first : j < k + 1 = before_in xs (lists.checks.rising g) j (k + 1) lj less (omega (arith, early, aj)) in
        end.free j first (subst (λ (c : ℕ). Path es (length es) c q) (sym aj) path))
        (listed_from b p t u n ep z.at (omega (arith, lists.checks.rising g k (k + 1) (omega arith) less, at_k)))

asked_comes : (b : BlockRecord) → HasOwnNumbers b → (ns : List ℕ) (gs : List (Option ℕ)) → AreNamed b ns gs → (es : List (List ℕ)) → AreTakes b.values es → (l : Lists) → AreLists b.values gs l → (g p q : ℕ)
    (u : ValueRecord) → slice_get b.values p ≡ Some u → IsAsked es l g p q → (v : ValueRecord) × (slice_get b.values q ≡ Some v) × ComesBefore b u v
asked_comes b own ns gs named es taking l lists g p q u ep asked = ⊎_elim
    (λ (cp, cq). state_comes b ns gs named l lists g p q u ep cp cq)
    (λ rest. ⊎_elim
    (λ follows. check_comes b ns gs named l lists g p q u ep follows)
    (λ (cq, last). load_comes b own ns gs named es taking l lists g p q u ep cq last)
    rest)
    asked

edge_comes : (b : BlockRecord) → HasOwnNumbers b → (ns : List ℕ) (gs : List (Option ℕ)) → AreNamed b ns gs → (es : List (List ℕ)) → AreTakes b.values es → (l : Lists) → AreLists b.values gs l → (n p q : ℕ)
    (u : ValueRecord) → slice_get b.values p ≡ Some u → IsRightBefore es l n p q → (v : ValueRecord) × (slice_get b.values q ≡ Some v) × ComesBefore b u v
edge_comes b own ns gs named es taking l lists n p q u ep h = ⊎_elim taken (λ (g, low, asked). asked_comes b own ns gs named es taking l lists g p q u ep asked) h
  where
    inside : IsEdge es q p → q < length b.values
    inside edge = ⊎_elim
        (λ (low : q < length es). omega (arith, low, taking.size))
        (λ (high : length es ≤ q). absurd (none_in p (subst (λ (us : List ℕ). Contains us p) (get_or_past es q [] high) edge)))
        (cases_lt q (length es))

    taken : IsEdge es q p → (v : ValueRecord) × (slice_get b.values q ≡ Some v) × ComesBefore b u v
    taken edge =
        let (v, ev) = at_some b.values q (inside edge) in
        let (w, ew, is) = edge_taken b es taking q p v ev edge in
        (v, ev, argument u v (subst (λ (x : ValueRecord). IsTakenBy b x v) (same_Some w u (sym ew ∙ ep)) is))

-- what comes right before is led to
edge_leads : (b : BlockRecord) (es : List (List ℕ)) → AreTakes b.values es → (l : Lists) (m : ℕ) (ds : List (List ℕ)) → AreRightBefore es l m ds → (p q : ℕ) (v : ValueRecord) → slice_get b.values q ≡ Some v
    → IsRightBefore es l m p q → Leads ds p q
edge_leads b es taking l m ds adds p q v eq h =
    let low = slice_get_within b.values q v eq in
    let size : length ds ≡ length es = adds.size ∙ length-replicate (length es) [] in
    (q, (right_edge es l m ds adds p q).1 h, omega (arith, low, taking.size, size), here (omega (arith, low, taking.size, size)))

pub listed_within : (b : BlockRecord) (gs : List (Option ℕ)) (es : List (List ℕ)) → AreTakes b.values es → (P : ValueRecord → Type 0) (xs : List (List ℕ)) → AreListed b.values gs P xs → (g p : ℕ)
    → Contains (get_or xs g []) p → p < length es
listed_within b gs es taking P xs listed g p c = let (v, e, group, fact) = (listed.each g p).0 c in omega (arith, taking.size, slice_get_within b.values p v e)

-- no check before the first that needs the load needs it
none_before : (b : BlockRecord) (ns : List ℕ) (gs : List (Option ℕ)) → AreNamed b ns gs → (es : List (List ℕ)) → AreTakes b.values es → (l : Lists) → AreLists b.values gs l → (g p q s j : ℕ)
    (u v : ValueRecord) → IsMember b gs IsNilCheck g p u → Names b u s → slice_get b.values q ≡ Some v → IsLoad v → j < length (get_or l.checks g []) → Path es (length es) (get_or (get_or l.checks g []) j 0) q
    → (x : ValueRecord) × (slice_get b.values (get_or (get_or l.checks g []) j 0) ≡ Some x) × Checks b x s × Needs b x v
none_before b ns gs named es taking l lists g p q s j u v m names eq load low path =
    let r = get_or (get_or l.checks g []) j 0 in
    let (n, z) = listed_value b gs IsNilCheck l.checks lists.checks g r (Contains-get_or (get_or l.checks g []) j 0 low) in
    let (inside, named_n) = beside b ns gs named IsNilCheck IsNilCheck g p r s u n m z names in
    let (w, ew, h) = path_needs b es taking r q path n z.at in
    let same : w ≡ v = same_Some w v (sym ew ∙ eq) in
    let needs : Needs b n v = ⊎_elim
    (λ (e : n ≡ w). absurd (not_both n z.fact (subst IsLoad (sym (e ∙ same)) load)))
    (λ k. subst (λ (o : ValueRecord). Needs b n o) same k)
    h in
    (n, z.at, (inside, z.fact, named_n), needs)

whole : (b : BlockRecord) → HasOwnNumbers b → (ns : List ℕ) (gs : List (Option ℕ)) → AreNamed b ns gs → (es : List (List ℕ)) → AreTakes b.values es → (l : Lists) → AreLists b.values gs l → (ds : List (List ℕ))
    → AreRightBefore es l (length ns) ds → (u v : ValueRecord) → ComesBefore b u v → (p q : ℕ) → slice_get b.values p ≡ Some u → slice_get b.values q ≡ Some v → Leads ds p q
whole b own ns gs named es taking l lists ds adds _ _ (argument u v taken) p q ep eq =
    edge_leads b es taking l (length ns) ds adds p q v eq (inl (taken_edge b es taking q p u v eq ep taken))
whole b own ns gs named es taking l lists ds adds _ _ (state u v s inside role names within is named_v) p q ep eq =
    let (g, gp, gq) = named.one p q s u v ep eq names named_v in
    let cp = (lists.users.each g p).1 (u, ep, gp, role) in
    let cq = (lists.nexts.each g q).1 (v, eq, gq, is) in
    edge_leads b es taking l (length ns) ds adds p q v eq (inr (g, named.within p g gp, inl (cp, cq)))
whole b own ns gs named es taking l lists ds adds _ _ (checks u v s cu cv listed) p q ep eq =
    let (g, gp, gq) = named.one p q s u v ep eq cu.2 cv.2 in
    let xs = get_or l.checks g [] in
    let (j, lj, aj) = index_of xs p ((lists.checks.each g p).1 (u, ep, gp, cu.1)) in
    let (k, lk, ak) = index_of xs q ((lists.checks.each g q).1 (v, eq, gq, cv.1)) in
    let less : p < q = listed_to b own p q u v ep eq listed in
    let first : j < k = before_in xs (lists.checks.rising g) j k lj lk (omega (arith, less, aj, ak)) in
    let n : j + 1 + (k - (j + 1)) ≡ k = omega (arith, first) in
    subst (λ (t : ℕ). Leads ds t q) aj
    (subst (λ (t : ℕ). Leads ds (get_or xs j 0) t) (ap (λ m. get_or xs m 0) n ∙ ak)
    (line_leads es l (length ns) ds adds g (named.within p g gp) (listed_within b gs es taking IsNilCheck l.checks lists.checks g) j (k - (j + 1)) (omega (arith, first, lk))))
whole b own ns gs named es taking l lists ds adds _ _ (needed u v w s cu lv cw needs first listed) p q ep eq =
    let (g, gp, gq) = named.one p q s u v ep eq cu.2 lv.2 in
    let xs = get_or l.checks g [] in
    let m : IsMember b gs IsNilCheck g p u = record { at = ep; group = gp; fact = cu.1 } in
    let (j, lj, aj) = index_of xs p ((lists.checks.each g p).1 (u, ep, gp, cu.1)) in
    let (r, k, er, lk, ak, path) = check_path b ns gs named es taking l lists IsNilCheck g p q s u v w m cu.2 eq cw needs in
    let less : p < r = listed_to b own p r u w ep er listed in
    let early : j < k = before_in xs (lists.checks.rising g) j k lj lk (omega (arith, less, aj, ak)) in
    let end : IsEnd es xs q k = record {
      within = omega (arith, lk);
      free = λ n ln way.
          let (x, ex, cx, nx) = none_before b ns gs named es taking l lists g p q s n u v m cu.2 eq lv.1 (omega (arith, ln, lk)) way in
          first x cx nx (listed_from b (get_or xs n 0) r x w ex er (omega (arith, ak, lists.checks.rising g n k ln lk)));
      met = λ inside. subst (λ (t : ℕ). Path es (length es) t q) (sym ak) path;
    } in
    let load = (lists.loads.each g q).1 (v, eq, gq, lv.1) in
    subst (λ (t : ℕ). Leads ds t q) aj
    (check_leads es l (length ns) ds adds g (named.within p g gp) (listed_within b gs es taking IsNilCheck l.checks lists.checks g) j k q early (omega (arith, taking.size, slice_get_within b.values q v eq)) load end)
whole b own ns gs named es taking l lists ds adds _ _ (unneeded u v s cu lv free) p q ep eq =
    let (g, gp, gq) = named.one p q s u v ep eq cu.2 lv.2 in
    let xs = get_or l.checks g [] in
    let m : IsMember b gs IsNilCheck g p u = record { at = ep; group = gp; fact = cu.1 } in
    let (j, lj, aj) = index_of xs p ((lists.checks.each g p).1 (u, ep, gp, cu.1)) in
    let end : IsEnd es xs q (length xs) = record {
      within = omega arith;
      free = λ n ln way. let (x, ex, cx, nx) = none_before b ns gs named es taking l lists g p q s n u v m cu.2 eq lv.1 ln way in free x cx nx;
      met = λ inside. absurd (omega (arith, inside));
    } in
    let load = (lists.loads.each g q).1 (v, eq, gq, lv.1) in
    subst (λ (t : ℕ). Leads ds t q) aj
    (check_leads es l (length ns) ds adds g (named.within p g gp) (listed_within b gs es taking IsNilCheck l.checks lists.checks g) j (length xs) q lj (omega (arith, taking.size, slice_get_within b.values q v eq)) load end)

-- so the edges are those of the order
pub order_is : (b : BlockRecord) → HasOwnNumbers b → (ns : List ℕ) (gs : List (Option ℕ)) → AreNamed b ns gs → (es : List (List ℕ)) → AreTakes b.values es → (l : Lists) → AreLists b.values gs l → (ds : List (List ℕ))
    → AreRightBefore es l (length ns) ds → IsOrder b ds
order_is b own ns gs named es taking l lists ds adds = record {
  size = adds.size ∙ (length-replicate {A = List ℕ} (length es) [] ∙ taking.size);
  within = inside;
  sound = λ p q u v ep eq edge.
      let (w, ew, c) = edge_comes b own ns gs named es taking l lists (length ns) p q u ep ((right_edge es l (length ns) ds adds p q).0 edge) in
      subst (λ (x : ValueRecord). ComesBefore b u x) (same_Some w v (sym ew ∙ eq)) c;
  whole = λ p q u v ep eq c. whole b own ns gs named es taking l lists ds adds u v c p q ep eq;
}
  where
    start : (p q : ℕ) → IsEdge ds p q → p < length b.values
    start p q edge = ⊎_elim
        (λ (low : p < length ds). omega (arith, low, adds.size, length-replicate {A = List ℕ} (length es) [], taking.size))
        (λ (high : length ds ≤ p). absurd (none_in q (subst (λ (us : List ℕ). Contains us q) (get_or_past ds p [] high) edge)))
        (cases_lt p (length ds))

    inside : (p q : ℕ) → IsEdge ds p q → q < length b.values
    inside p q edge =
        let (u, eu) = at_some b.values p (start p q edge) in
        let (w, ew, c) = edge_comes b own ns gs named es taking l lists (length ns) p q u eu ((right_edge es l (length ns) ds adds p q).0 edge) in
        slice_get_within b.values q w ew

-- what is taken stands at a place of the block
pub takes_within : (b : BlockRecord) (es : List (List ℕ)) → AreTakes b.values es → (p q : ℕ) → IsEdge es p q → q < length es
takes_within b es taking p q edge =
    let inside : p < length b.values = ⊎_elim
    (λ (low : p < length es). omega (arith, low, taking.size))
    (λ (high : length es ≤ p). absurd (none_in q (subst (λ (us : List ℕ). Contains us q) (get_or_past es p [] high) edge)))
    (cases_lt p (length es)) in
    let (v, ev) = at_some b.values p inside in
    let (u, eu, other, c) = (taking.edge p v ev q).0 edge in
    omega (arith, taking.size, slice_get_within b.values q u eu)
