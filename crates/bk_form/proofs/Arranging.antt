-- That the edges of groups and of what is taken are those of values that come right before others.
use Rattle.std.proofs.Common.{◌≡◌, ◌∙◌, sym, refl, ap, subst, ℕ, ◌+◌, ◌-◌, ◌<◌, ◌≤◌, List, [], length, get_or, Option, None, Some, inl, inr, ⊎_elim, arith}
use Rattle.std.specs.List.{Contains, slice_get}
use Rattle.std.proofs.lemmas.Bool.{cases_lt}
use Rattle.std.proofs.lemmas.List.{get_or_past, length-replicate}
use Rattle.std.proofs.lemmas.List.Elements.{Contains-get_or}
use Rattle.std.proofs.lemmas.Option.{same_Some, slice_get_within}
use Rattle.bk_func.specs.Records.{ValueRecord, BlockRecord, FuncRecord}
use Rattle.bk_func.specs.Form.States.{Names, IsState}
use Rattle.bk_func.specs.Form.Before.{IsLoad, IsNilCheck, Needs, Checks, ComesBefore, argument, state, checks, needed, unneeded, Precedes, right, onward as further}
use Rattle.bk_places.proofs.Leading.{before_in, index_of, AreRightBefore, right_edge, line_leads, check_leads}
use Rattle.bk_places.specs.declared.order.Lists.{Lists}
use Rattle.bk_places.specs.declared.role.Role.TheVariants.{Check, Load as Loading, User}
use Rattle.bk_places.proofs.Elements.{none_in, at_some}
use Rattle.bk_places.specs.Order.{Follows, IsAsked, IsEnd, IsLastBefore, IsRightBefore}
use Rattle.bk_places.specs.Search.{Leads, IsEdge, Path, here, onward}
use Rattle.bk_form.specs.Arranged.{AreLists, AreTakes, IsNextAt, PlaysAt}
use Rattle.bk_form.specs.Groups.{AreGroupsOf, AreListed}
use Rattle.bk_form.specs.Orders.{IsOrder}
use Rattle.bk_form.specs.Places.{NodeRecord, node_at, nodes_of}
use Rattle.bk_form.proofs.Copied.{AreValues}
use Rattle.bk_form.proofs.Needing.{in_block, listed_from, listed_to, taken_edge, needs_path, path_needs}
use Rattle.bk_form.proofs.Standing.{node_in}

-- no value is a check and a load
not_both : (v : ValueRecord) → IsNilCheck v → IsLoad v → ⊥
not_both v check load = ⊎_elim
    (λ a. ⊎_elim (λ x. absurd (cc)) (λ r. ⊎_elim (λ y. absurd (cc)) (λ z. absurd (cc)) r) load)
    (λ s. ⊎_elim
    (λ b. ⊎_elim (λ x. absurd (cc)) (λ r. ⊎_elim (λ y. absurd (cc)) (λ z. absurd (cc)) r) load)
    (λ c. ⊎_elim (λ x. absurd (cc)) (λ r. ⊎_elim (λ y. absurd (cc)) (λ z. absurd (cc)) r) load)
    s)
    check

-- the value of a member of a group
record IsMember (f : FuncRecord) (gs : List (Option ℕ)) (P : ℕ → NodeRecord → Type 0) (g p : ℕ) (m : NodeRecord) : Type 0 where
  pub at : slice_get (nodes_of f) p ≡ Some m
  pub group : get_or gs p None ≡ Some g
  pub fact : P p m

member : (f : FuncRecord) (gs : List (Option ℕ)) (P : ℕ → NodeRecord → Type 0) (es : List (List ℕ)) → AreListed f gs P es → (g p : ℕ) (m : NodeRecord) → slice_get (nodes_of f) p ≡ Some m
    → Contains (get_or es g []) p → IsMember f gs P g p m
member f gs P es listed g p m e c =
    let (o, eo, group, fact) = (listed.each g p).0 c in
    record { at = e; group = group; fact = subst (λ (x : NodeRecord). P p x) (same_Some o m (sym eo ∙ e)) fact }

listed_node : (f : FuncRecord) (gs : List (Option ℕ)) (P : ℕ → NodeRecord → Type 0) (es : List (List ℕ)) → AreListed f gs P es → (g p : ℕ) → Contains (get_or es g []) p
    → (m : NodeRecord) × IsMember f gs P g p m
listed_node f gs P es listed g p c = let (m, e, group, fact) = (listed.each g p).0 c in (m, record { at = e; group = group; fact = fact })

-- a member of a group stands in the block of another, and names its state
beside : (f : FuncRecord) (gs : List (Option ℕ)) → AreGroupsOf f gs → (P Q : ℕ → NodeRecord → Type 0) (g i p q s : ℕ) (b : BlockRecord) (u : ValueRecord) (o : NodeRecord) → slice_get f.blocks i ≡ Some b
    → IsMember f gs P g p (node_at i u) → IsMember f gs Q g q o → Names f u s → (slice_get (nodes_of f) q ≡ Some (node_at i o.value)) × Contains b.values o.value × Names f o.value s
beside f gs groups P Q g i p q s b u o eb x y names =
    let home : i ≡ o.home = groups.home p q g (node_at i u) o x.at y.at x.group y.group in
    let at : slice_get (nodes_of f) q ≡ Some (node_at i o.value) = y.at ∙ ap (λ k. Some (node_at k o.value)) (sym home) in
    (at, in_block f i q b o.value eb at, groups.same p q g s (node_at i u) o x.at y.at x.group y.group names)

-- a value that names the state of the group is a member
joins : (f : FuncRecord) (gs : List (Option ℕ)) → AreGroupsOf f gs → (P Q : ℕ → NodeRecord → Type 0) (es : List (List ℕ)) → AreListed f gs Q es → (g i p q s : ℕ) (u v : ValueRecord)
    → IsMember f gs P g p (node_at i u) → slice_get (nodes_of f) q ≡ Some (node_at i v) → Names f u s → Names f v s → Q q (node_at i v) → Contains (get_or es g []) q
joins f gs groups P Q es listed g i p q s u v x eq nu nv fact =
    let (h, gp, gq) = groups.one p q s (node_at i u) (node_at i v) x.at eq refl nu nv in
    let same : h ≡ g = same_Some h g (sym gp ∙ x.group) in
    (listed.each g q).1 (node_at i v, eq, gq ∙ ap Some same, fact)

-- a check of the state that needs the value stands in the list of checks, and a path leads from it
check_path : (f : FuncRecord) (gs : List (Option ℕ)) → AreGroupsOf f gs → (es : List (List ℕ)) → AreTakes f es → (l : Lists) → AreLists f gs l → (P : ℕ → NodeRecord → Type 0) (g i p q s : ℕ)
    (b : BlockRecord) (u v x : ValueRecord) → slice_get f.blocks i ≡ Some b → IsMember f gs P g p (node_at i u) → Names f u s → slice_get (nodes_of f) q ≡ Some (node_at i v) → Checks f b x s → Needs b x v
    → (r k : ℕ) × (slice_get (nodes_of f) r ≡ Some (node_at i x)) × k < length (get_or l.checks g []) × (get_or (get_or l.checks g []) k 0 ≡ r) × Path es (length es) r q
check_path f gs groups es taking l lists P g i p q s b u v x eb m names eq (inside, check, named) needs =
    let (r, er) = node_in f i b x eb inside in
    let c = joins f gs groups P (PlaysAt Check) l.checks lists.checks g i p r s u x m er names named check in
    let (k, low, at) = index_of (get_or l.checks g []) r c in
    (r, k, er, low, at, needs_path f es taking i b eb x v needs r q er eq)

-- what a group asks comes right before
state_comes : (f : FuncRecord) (gs : List (Option ℕ)) → AreGroupsOf f gs → (l : Lists) → AreLists f gs l → (g i p q : ℕ) (b : BlockRecord) (u : ValueRecord) → slice_get f.blocks i ≡ Some b
    → slice_get (nodes_of f) p ≡ Some (node_at i u) → Contains (get_or l.users g []) p → Contains (get_or l.nexts g []) q
    → (v : ValueRecord) × (slice_get (nodes_of f) q ≡ Some (node_at i v)) × ComesBefore f b u v
state_comes f gs groups l lists g i p q b u eb ep cp cq =
    let x = member f gs (PlaysAt User) l.users lists.users g p (node_at i u) ep cp in
    let (o, y) = listed_node f gs (IsNextAt f) l.nexts lists.nexts g q cq in
    let (s, names) = groups.named p g (node_at i u) ep x.group in
    let (at, inside, named) = beside f gs groups (PlaysAt User) (IsNextAt f) g i p q s b u o eb x y names in
    let (j, (d, v, ed, ev, is)) = y.fact in
    let node : node_at j v ≡ node_at i o.value = same_Some (node_at j v) (node_at i o.value) (sym ev ∙ at) in
    let home : j ≡ i = ap (λ (n : NodeRecord). n.home) node in
    let value : v ≡ o.value = ap (λ (n : NodeRecord). n.value) node in
    let block : d ≡ b = same_Some d b (sym ed ∙ (ap (slice_get f.blocks) home ∙ eb)) in
    let is_state : IsState f b o.value = subst (λ (w : ValueRecord). IsState f b w) value (subst (λ (c : BlockRecord). IsState f c v) block is) in
    (o.value, at, state u o.value s (in_block f i p b u eb ep) x.fact names is_state named)

check_comes : (f : FuncRecord) → AreValues f → (gs : List (Option ℕ)) → AreGroupsOf f gs → (l : Lists) → AreLists f gs l → (g i p q : ℕ) (b : BlockRecord) (u : ValueRecord) → slice_get f.blocks i ≡ Some b
    → slice_get (nodes_of f) p ≡ Some (node_at i u) → Follows (get_or l.checks g []) p q → (v : ValueRecord) × (slice_get (nodes_of f) q ≡ Some (node_at i v)) × ComesBefore f b u v
check_comes f values gs groups l lists g i p q b u eb ep (k, low, ap', aq) =
    let xs = get_or l.checks g [] in
    let cp : Contains xs p = subst (λ (j : ℕ). Contains xs j) ap' (Contains-get_or xs k 0 (omega arith)) in
    let cq : Contains xs q = subst (λ (j : ℕ). Contains xs j) aq (Contains-get_or xs (k + 1) 0 low) in
    let x = member f gs (PlaysAt Check) l.checks lists.checks g p (node_at i u) ep cp in
    let (o, y) = listed_node f gs (PlaysAt Check) l.checks lists.checks g q cq in
    let (s, names) = groups.named p g (node_at i u) ep x.group in
    let (at, inside, named) = beside f gs groups (PlaysAt Check) (PlaysAt Check) g i p q s b u o eb x y names in
    let less : p < q = omega (arith, lists.checks.rising g k (k + 1) (omega arith) low, ap', aq) in
    (o.value, at, checks u o.value s (in_block f i p b u eb ep, x.fact, names) (inside, y.fact, named) (listed_from f values i p q b u o.value eb ep at less))

load_comes : (f : FuncRecord) → AreValues f → (gs : List (Option ℕ)) → AreGroupsOf f gs → (es : List (List ℕ)) → AreTakes f es → (l : Lists) → AreLists f gs l → (g i p q : ℕ) (b : BlockRecord)
    (u : ValueRecord) → slice_get f.blocks i ≡ Some b → slice_get (nodes_of f) p ≡ Some (node_at i u) → Contains (get_or l.loads g []) q → IsLastBefore es (get_or l.checks g []) p q
    → (v : ValueRecord) × (slice_get (nodes_of f) q ≡ Some (node_at i v)) × ComesBefore f b u v
load_comes f values gs groups es taking l lists g i p q b u eb ep cq (k, low, at_k, end) =
    let cp : Contains xs p = subst (λ (j : ℕ). Contains xs j) at_k (Contains-get_or xs k 0 low) in
    let x = member f gs (PlaysAt Check) l.checks lists.checks g p (node_at i u) ep cp in
    let (o, y) = listed_node f gs (PlaysAt Loading) l.loads lists.loads g q cq in
    let (s, names) = groups.named p g (node_at i u) ep x.group in
    let (at, inside, named) = beside f gs groups (PlaysAt Check) (PlaysAt Loading) g i p q s b u o eb x y names in
    (o.value, at, ⊎_elim (λ (less : k + 1 < length xs). waits s x o y names at inside named less) (λ (over : length xs ≤ k + 1). follows s x o y names at inside named over) (cases_lt (k + 1) (length xs)))
  where
    xs : List ℕ
    xs = get_or l.checks g []

    follows : (s : ℕ) → IsMember f gs (PlaysAt Check) g p (node_at i u) → (o : NodeRecord) → IsMember f gs (PlaysAt Loading) g q o → Names f u s → slice_get (nodes_of f) q ≡ Some (node_at i o.value)
        → Contains b.values o.value → Names f o.value s → length xs ≤ k + 1 → ComesBefore f b u o.value
    follows s x o y names at inside named over =
        unneeded u o.value s (in_block f i p b u eb ep, x.fact, names) (inside, y.fact, named)
        (λ z check needs.
        let (r, j, er, lj, aj, path) = check_path f gs groups es taking l lists (PlaysAt Check) g i p q s b u o.value z eb x names at check needs in
        end.free j (omega arith) (subst (λ (n : ℕ). Path es (length es) n q) (sym aj) path))

    waits : (s : ℕ) → IsMember f gs (PlaysAt Check) g p (node_at i u) → (o : NodeRecord) → IsMember f gs (PlaysAt Loading) g q o → Names f u s → slice_get (nodes_of f) q ≡ Some (node_at i o.value)
        → Contains b.values o.value → Names f o.value s → k + 1 < length xs → ComesBefore f b u o.value
    waits s x o y names at inside named less =
        let t = get_or xs (k + 1) 0 in
        let (n, z) = listed_node f gs (PlaysAt Check) l.checks lists.checks g t (Contains-get_or xs (k + 1) 0 less) in
        let (et, within, named_w) = beside f gs groups (PlaysAt Check) (PlaysAt Check) g i p t s b u n eb x z names in
        let (v, ev, h) = path_needs f es taking i b eb (length es) t q (end.met less) n.value et in
        let same : v ≡ o.value = ap (λ (m : NodeRecord). m.value) (same_Some (node_at i v) (node_at i o.value) (sym ev ∙ at)) in
        let needs : Needs b n.value o.value = ⊎_elim
        (λ (e : n.value ≡ v). absurd (not_both n.value z.fact (subst IsLoad (sym (e ∙ same)) y.fact)))
        (λ r. subst (λ (w : ValueRecord). Needs b n.value w) same r)
        h in
        needed u o.value n.value s (in_block f i p b u eb ep, x.fact, names) (inside, y.fact, named) (within, z.fact, named_w) needs
        (λ w check more listed.
        let (r, j, er, lj, aj, path) = check_path f gs groups es taking l lists (PlaysAt Check) g i p q s b u o.value w eb x names at check more in
        let early : r < t = listed_to f values i r t b w n.value eb er et listed in
        let first : j < k + 1 = before_in xs (lists.checks.rising g) j (k + 1) lj less (omega (arith, aj)) in
        end.free j first (subst (λ (c : ℕ). Path es (length es) c q) (sym aj) path))
        (listed_from f values i p t b u n.value eb ep et (omega (arith, lists.checks.rising g k (k + 1) (omega arith) less, at_k)))

asked_comes : (f : FuncRecord) → AreValues f → (gs : List (Option ℕ)) → AreGroupsOf f gs → (es : List (List ℕ)) → AreTakes f es → (l : Lists) → AreLists f gs l → (g i p q : ℕ) (b : BlockRecord)
    (u : ValueRecord) → slice_get f.blocks i ≡ Some b → slice_get (nodes_of f) p ≡ Some (node_at i u) → IsAsked es l g p q
    → (v : ValueRecord) × (slice_get (nodes_of f) q ≡ Some (node_at i v)) × ComesBefore f b u v
asked_comes f values gs groups es taking l lists g i p q b u eb ep asked = ⊎_elim
    (λ (cp, cq). state_comes f gs groups l lists g i p q b u eb ep cp cq)
    (λ rest. ⊎_elim
    (λ follows. check_comes f values gs groups l lists g i p q b u eb ep follows)
    (λ (cq, last). load_comes f values gs groups es taking l lists g i p q b u eb ep cq last)
    rest)
    asked

edge_comes : (f : FuncRecord) → AreValues f → (gs : List (Option ℕ)) → AreGroupsOf f gs → (es : List (List ℕ)) → AreTakes f es → (l : Lists) → AreLists f gs l → (n i p q : ℕ) (b : BlockRecord)
    (u : ValueRecord) → slice_get f.blocks i ≡ Some b → slice_get (nodes_of f) p ≡ Some (node_at i u) → IsRightBefore es l n p q
    → (v : ValueRecord) × (slice_get (nodes_of f) q ≡ Some (node_at i v)) × ComesBefore f b u v
edge_comes f values gs groups es taking l lists n i p q b u eb ep h = ⊎_elim taken (λ (g, low, asked). asked_comes f values gs groups es taking l lists g i p q b u eb ep asked) h
  where
    inside : IsEdge es q p → q < length (nodes_of f)
    inside edge = ⊎_elim
        (λ (low : q < length es). omega (arith, taking.size))
        (λ (high : length es ≤ q). absurd (none_in p (subst (λ (us : List ℕ). Contains us p) (get_or_past es q [] high) edge)))
        (cases_lt q (length es))

    taken : IsEdge es q p → (v : ValueRecord) × (slice_get (nodes_of f) q ≡ Some (node_at i v)) × ComesBefore f b u v
    taken edge =
        let (m, em) = at_some (nodes_of f) q (inside edge) in
        let (o, eo, home, other, c) = (taking.edge q m em p).0 edge in
        let node : o ≡ node_at i u = same_Some o (node_at i u) (sym eo ∙ ep) in
        let is : m.home ≡ i = home ∙ ap (λ (x : NodeRecord). x.home) node in
        let at : slice_get (nodes_of f) q ≡ Some (node_at i m.value) = em ∙ ap (λ k. Some (node_at k m.value)) is in
        (m.value, at, argument u m.value (in_block f i p b u eb ep, in_block f i q b m.value eb at, other, subst (λ (x : NodeRecord). Contains m.value.args x.value.id) node c))

-- a path says that values precede others
precedes_then : (f : FuncRecord) (b : BlockRecord) (u v w : ValueRecord) → Precedes f b u v → ComesBefore f b v w → Precedes f b u w
precedes_then f b _ _ w (right u v c) more = further u v w c (right v w more)
precedes_then f b _ _ w (further t u v c rest) more = further t u w c (precedes_then f b u v w rest more)

path_precedes : (f : FuncRecord) → AreValues f → (gs : List (Option ℕ)) → AreGroupsOf f gs → (es : List (List ℕ)) → AreTakes f es → (l : Lists) → AreLists f gs l → (ds : List (List ℕ))
    → AreRightBefore es l (length es) ds → (i : ℕ) (b : BlockRecord) (u x : ValueRecord) → slice_get f.blocks i ≡ Some b → (a t q : ℕ) → Path ds a t q → slice_get (nodes_of f) t ≡ Some (node_at i x)
    → ComesBefore f b u x → (v : ValueRecord) × (slice_get (nodes_of f) q ≡ Some (node_at i v)) × Precedes f b u v
path_precedes f values gs groups es taking l lists ds adds i b u x eb a t _ (here within) et c = (x, et, right u x c)
path_precedes f values gs groups es taking l lists ds adds i b u x eb a t _ (onward r q path apart edge within) et c =
    let (y, er, front) = path_precedes f values gs groups es taking l lists ds adds i b u x eb a t r path et c in
    let (v, eq, more) = edge_comes f values gs groups es taking l lists (length es) i r q b y eb er ((right_edge es l (length es) ds adds r q).0 edge) in
    (v, eq, precedes_then f b u y v front more)

-- what comes right before is led to
edge_leads : (f : FuncRecord) (es : List (List ℕ)) → AreTakes f es → (l : Lists) (ds : List (List ℕ)) → AreRightBefore es l (length es) ds → (p q : ℕ) (m : NodeRecord) → slice_get (nodes_of f) q ≡ Some m
    → IsRightBefore es l (length es) p q → Leads ds p q
edge_leads f es taking l ds adds p q m eq h =
    let low = slice_get_within (nodes_of f) q m eq in
    let size : length ds ≡ length es = adds.size ∙ length-replicate (length es) [] in
    (q, (right_edge es l (length es) ds adds p q).1 h, omega (arith, taking.size, size), here (omega (arith, taking.size, size)))

pub listed_within : (f : FuncRecord) (gs : List (Option ℕ)) (es : List (List ℕ)) → AreTakes f es → (P : ℕ → NodeRecord → Type 0) (xs : List (List ℕ)) → AreListed f gs P xs → (g p : ℕ)
    → Contains (get_or xs g []) p → p < length es
listed_within f gs es taking P xs listed g p c = let (m, e, group, fact) = (listed.each g p).0 c in omega (arith, taking.size, slice_get_within (nodes_of f) p m e)

-- no check before the first that needs the load needs it
none_before : (f : FuncRecord) → AreValues f → (gs : List (Option ℕ)) → AreGroupsOf f gs → (es : List (List ℕ)) → AreTakes f es → (l : Lists) → AreLists f gs l → (g i p q s j : ℕ) (b : BlockRecord)
    (u v : ValueRecord) → slice_get f.blocks i ≡ Some b → IsMember f gs (PlaysAt Check) g p (node_at i u) → Names f u s → slice_get (nodes_of f) q ≡ Some (node_at i v) → IsLoad v
    → j < length (get_or l.checks g []) → Path es (length es) (get_or (get_or l.checks g []) j 0) q
    → (x : ValueRecord) × (slice_get (nodes_of f) (get_or (get_or l.checks g []) j 0) ≡ Some (node_at i x)) × Checks f b x s × Needs b x v
none_before f values gs groups es taking l lists g i p q s j b u v eb m names eq load low path =
    let r = get_or (get_or l.checks g []) j 0 in
    let (n, z) = listed_node f gs (PlaysAt Check) l.checks lists.checks g r (Contains-get_or (get_or l.checks g []) j 0 low) in
    let (er, inside, named) = beside f gs groups (PlaysAt Check) (PlaysAt Check) g i p r s b u n eb m z names in
    let (w, ew, h) = path_needs f es taking i b eb (length es) r q path n.value er in
    let same : w ≡ v = ap (λ (o : NodeRecord). o.value) (same_Some (node_at i w) (node_at i v) (sym ew ∙ eq)) in
    let needs : Needs b n.value v = ⊎_elim
    (λ (e : n.value ≡ w). absurd (not_both n.value z.fact (subst IsLoad (sym (e ∙ same)) load)))
    (λ k. subst (λ (o : ValueRecord). Needs b n.value o) same k)
    h in
    (n.value, er, (inside, z.fact, named), needs)

whole : (f : FuncRecord) → AreValues f → (gs : List (Option ℕ)) → AreGroupsOf f gs → (es : List (List ℕ)) → AreTakes f es → (l : Lists) → AreLists f gs l → (ds : List (List ℕ)) → AreRightBefore es l (length es) ds
    → (i : ℕ) (b : BlockRecord) → slice_get f.blocks i ≡ Some b → (u v : ValueRecord) → ComesBefore f b u v → (p q : ℕ) → slice_get (nodes_of f) p ≡ Some (node_at i u)
    → slice_get (nodes_of f) q ≡ Some (node_at i v) → Leads ds p q
whole f values gs groups es taking l lists ds adds i b eb _ _ (argument u v taken) p q ep eq =
    edge_leads f es taking l ds adds p q (node_at i v) eq (inl (taken_edge f es taking i q p b u v eq ep taken))
whole f values gs groups es taking l lists ds adds i b eb _ _ (state u v s inside role names is named) p q ep eq =
    let (g, gp, gq) = groups.one p q s (node_at i u) (node_at i v) ep eq refl names named in
    let low : g < length es = omega (arith, groups.within p g gp, taking.size) in
    let cp = (lists.users.each g p).1 (node_at i u, ep, gp, role) in
    let cq = (lists.nexts.each g q).1 (node_at i v, eq, gq, (i, (b, v, eb, eq, is))) in
    edge_leads f es taking l ds adds p q (node_at i v) eq (inr (g, low, inl (cp, cq)))
whole f values gs groups es taking l lists ds adds i b eb _ _ (checks u v s cu cv listed) p q ep eq =
    let (g, gp, gq) = groups.one p q s (node_at i u) (node_at i v) ep eq refl cu.2 cv.2 in
    let low : g < length es = omega (arith, groups.within p g gp, taking.size) in
    let xs = get_or l.checks g [] in
    let (j, lj, aj) = index_of xs p ((lists.checks.each g p).1 (node_at i u, ep, gp, cu.1)) in
    let (k, lk, ak) = index_of xs q ((lists.checks.each g q).1 (node_at i v, eq, gq, cv.1)) in
    let less : p < q = listed_to f values i p q b u v eb ep eq listed in
    let first : j < k = before_in xs (lists.checks.rising g) j k lj lk (omega (arith, aj, ak)) in
    let n : j + 1 + (k - (j + 1)) ≡ k = omega arith in
    subst (λ (t : ℕ). Leads ds t q) aj
    (subst (λ (t : ℕ). Leads ds (get_or xs j 0) t) (ap (λ m. get_or xs m 0) n ∙ ak)
    (line_leads es l (length es) ds adds g low (listed_within f gs es taking (PlaysAt Check) l.checks lists.checks g) j (k - (j + 1)) (omega arith)))
whole f values gs groups es taking l lists ds adds i b eb _ _ (needed u v w s cu lv cw needs first listed) p q ep eq =
    let (g, gp, gq) = groups.one p q s (node_at i u) (node_at i v) ep eq refl cu.2 lv.2 in
    let low : g < length es = omega (arith, groups.within p g gp, taking.size) in
    let xs = get_or l.checks g [] in
    let m : IsMember f gs (PlaysAt Check) g p (node_at i u) = record { at = ep; group = gp; fact = cu.1 } in
    let (j, lj, aj) = index_of xs p ((lists.checks.each g p).1 (node_at i u, ep, gp, cu.1)) in
    let (r, k, er, lk, ak, path) = check_path f gs groups es taking l lists (PlaysAt Check) g i p q s b u v w eb m cu.2 eq cw needs in
    let less : p < r = listed_to f values i p r b u w eb ep er listed in
    let early : j < k = before_in xs (lists.checks.rising g) j k lj lk (omega (arith, aj, ak)) in
    let end : IsEnd es xs q k = record {
      within = omega arith;
      free = λ n ln way.
          let (x, ex, cx, nx) = none_before f values gs groups es taking l lists g i p q s n b u v eb m cu.2 eq lv.1 (omega arith) way in
          first x cx nx (listed_from f values i (get_or xs n 0) r b x w eb ex er (omega (arith, ak, lists.checks.rising g n k ln lk)));
      met = λ inside. subst (λ (t : ℕ). Path es (length es) t q) (sym ak) path;
    } in
    let load = (lists.loads.each g q).1 (node_at i v, eq, gq, lv.1) in
    subst (λ (t : ℕ). Leads ds t q) aj
    (check_leads es l (length es) ds adds g low (listed_within f gs es taking (PlaysAt Check) l.checks lists.checks g) j k q early
    (omega (arith, taking.size, slice_get_within (nodes_of f) q (node_at i v) eq)) load end)
whole f values gs groups es taking l lists ds adds i b eb _ _ (unneeded u v s cu lv free) p q ep eq =
    let (g, gp, gq) = groups.one p q s (node_at i u) (node_at i v) ep eq refl cu.2 lv.2 in
    let low : g < length es = omega (arith, groups.within p g gp, taking.size) in
    let xs = get_or l.checks g [] in
    let m : IsMember f gs (PlaysAt Check) g p (node_at i u) = record { at = ep; group = gp; fact = cu.1 } in
    let (j, lj, aj) = index_of xs p ((lists.checks.each g p).1 (node_at i u, ep, gp, cu.1)) in
    let end : IsEnd es xs q (length xs) = record {
      within = omega arith;
      free = λ n ln way. let (x, ex, cx, nx) = none_before f values gs groups es taking l lists g i p q s n b u v eb m cu.2 eq lv.1 ln way in free x cx nx;
      met = λ inside. absurd (omega arith);
    } in
    let load = (lists.loads.each g q).1 (node_at i v, eq, gq, lv.1) in
    subst (λ (t : ℕ). Leads ds t q) aj
    (check_leads es l (length es) ds adds g low (listed_within f gs es taking (PlaysAt Check) l.checks lists.checks g) j (length xs) q lj
    (omega (arith, taking.size, slice_get_within (nodes_of f) q (node_at i v) eq)) load end)

-- so the edges are those of the order
pub order_is : (f : FuncRecord) → AreValues f → (gs : List (Option ℕ)) → AreGroupsOf f gs → (es : List (List ℕ)) → AreTakes f es → (l : Lists) → AreLists f gs l → (ds : List (List ℕ))
    → AreRightBefore es l (length es) ds → IsOrder f ds
order_is f values gs groups es taking l lists ds adds = record {
  size = omega (arith, adds.size, length-replicate {A = List ℕ} (length es) [], taking.size);
  sound = λ p q i b u o eb ep eq (t, edge, w, path).
      let (x, et, c) = edge_comes f values gs groups es taking l lists (length es) i p t b u eb ep ((right_edge es l (length es) ds adds p t).0 edge) in
      let (v, ev, front) = path_precedes f values gs groups es taking l lists ds adds i b u x eb (length ds) t q path et c in
      subst (λ (n : NodeRecord). Precedes f b u n.value) (same_Some (node_at i v) o (sym ev ∙ eq)) front;
  whole = λ p q i b u v eb ep eq c. whole f values gs groups es taking l lists ds adds i b eb u v c p q ep eq;
}

-- what is taken stands at a place of the function
pub takes_within : (f : FuncRecord) (es : List (List ℕ)) → AreTakes f es → (p q : ℕ) → IsEdge es p q → q < length es
takes_within f es taking p q edge =
    let inside : p < length (nodes_of f) = ⊎_elim
    (λ (low : p < length es). omega (arith, taking.size))
    (λ (high : length es ≤ p). absurd (none_in q (subst (λ (us : List ℕ). Contains us q) (get_or_past es p [] high) edge)))
    (cases_lt p (length es)) in
    let (m, em) = at_some (nodes_of f) p inside in
    let (o, eo, home, other, c) = (taking.edge p m em q).0 edge in
    omega (arith, taking.size, slice_get_within (nodes_of f) q o eo)
