-- Groups of places, one place after the other.
use Rattle.std.proofs.Common.{◌≡◌, ◌∙◌, sym, refl, ap, subst, ℕ, ◌+◌, ◌<◌, ◌≤◌, ◌↔◌, Bool, true, false, cond, List, [], ◌∷◌, ◌++◌, length, get_or, Option, None, Some, ⊎_elim, arith}
use Rattle.std.specs.BTreeMap.{get, BTreeMap, is_at}
use Rattle.std.specs.List.{slice_get}
use Rattle.std.specs.Option.{is_some, unwrap_or}
use Rattle.std.specs.Ordering.{nat_cmp, ordering_then, is_eq}
use Rattle.std.specs.declared.cmp.Ordering.{Ordering}
use Rattle.std.specs.declared.cmp.Ordering.TheVariants.{Less, Equal, Greater}
use Rattle.std.proofs.lemmas.Bool.{cases_Bool, cases_lt, eqb-true, eq-eqb, false≢true}
use Rattle.std.proofs.lemmas.List.{get_or_append_left, get_or_past, get_or_push, length_push}
use Rattle.std.proofs.lemmas.Option.{none-some, same_Some, slice_get_within}
use Rattle.bk_func.specs.Records.{FuncRecord}
use Rattle.bk_func.specs.Form.States.{Names}
use Rattle.bk_places.proofs.Elements.{at_some}
use Rattle.bk_places.proofs.Filling.{Filled}
use Rattle.bk_places.specs.Order.{AreMembers}
use Rattle.bk_form.specs.Arranged.{IsNextAt}
use Rattle.bk_form.specs.Chains.{AreHomes, AreNamed}
use Rattle.bk_form.specs.Naming.{NamesIf}
use Rattle.bk_form.specs.Places.{NodeRecord, nodes_of}
use Rattle.bk_form.specs.Edges.{edge_cmp}
use Rattle.bk_form.specs.Groups.{group_in, grouped, key_of, AreGroups, AreGroupsOf, AreListed, ArePicked}
use Rattle.bk_form.proofs.Bearers.{is_at_number}
use Rattle.bk_form.proofs.Copied.{AreValues, one_node}

-- the groups of the places below the index, and the first place of each key
pub record GroupedUpTo (ks : List (Option (ℕ × ℕ))) (i : ℕ) (m : BTreeMap (ℕ × ℕ) ℕ) (gs : List (Option ℕ)) : Type 0 where
  pub size : length gs ≡ i
  pub first : (k : ℕ × ℕ) (g : ℕ) → get edge_cmp m k ≡ Some g → g < i × (get_or ks g None ≡ Some k)
  pub none : (p : ℕ) → p < i → get_or ks p None ≡ None → get_or gs p None ≡ None
  pub some : (p : ℕ) (k : ℕ × ℕ) → p < i → get_or ks p None ≡ Some k → (g : ℕ) × (get_or gs p None ≡ Some g) × (get edge_cmp m k ≡ Some g)

-- a look-up by a key finds the same key
both_equal : (a b : Ordering) → is_eq (ordering_then a b) ≡ true → (is_eq a ≡ true) × (is_eq b ≡ true)
both_equal Equal b t = (refl, t)
both_equal Less b t = absurd (false≢true t)
both_equal Greater b t = absurd (false≢true t)

equal_both : (a b : Ordering) → is_eq a ≡ true → is_eq b ≡ true → is_eq (ordering_then a b) ≡ true
equal_both Equal b s t = t
equal_both Less b s t = absurd (false≢true s)
equal_both Greater b s t = absurd (false≢true s)

same_pair : {x y : ℕ × ℕ} → x.0 ≡ y.0 → x.1 ≡ y.1 → x ≡ y
same_pair {x} {y} p q = rw (p, q) refl

is_same : (x e : ℕ × ℕ) → is_at (edge_cmp x) e ≡ true → x ≡ e
is_same x e t =
    let (s, r) = both_equal (nat_cmp x.0 e.0) (nat_cmp x.1 e.1) t in
    same_pair (eqb-true x.0 e.0 (sym (is_at_number x.0 e.0) ∙ s)) (eqb-true x.1 e.1 (sym (is_at_number x.1 e.1) ∙ r))

is_there : (x : ℕ × ℕ) → is_at (edge_cmp x) x ≡ true
is_there x =
    equal_both (nat_cmp x.0 x.0) (nat_cmp x.1 x.1) (is_at_number x.0 x.0 ∙ eq-eqb x.0 x.0 refl) (is_at_number x.1 x.1 ∙ eq-eqb x.1 x.1 refl)

-- a place without a key
pub grouped_none : (ks : List (Option (ℕ × ℕ))) (i : ℕ) (m n : BTreeMap (ℕ × ℕ) ℕ) (gs hs : List (Option ℕ)) → GroupedUpTo ks i m gs → get_or ks i None ≡ None
    → ((k : ℕ × ℕ) → get edge_cmp n k ≡ get edge_cmp m k) → hs ≡ gs ++ None ∷ [] → GroupedUpTo ks (i + 1) n hs
grouped_none ks i m n gs hs g free same more = record {
  size = ap length more ∙ (length_push gs None ∙ ap (λ j. j + 1) g.size);
  first = λ k h e. let (b, at) = g.first k h (sym (same k) ∙ e) in (omega arith, at);
  none = λ p l e. ⊎_elim
      (λ (b : p < i). ap (λ us. get_or us p None) more ∙ (get_or_append_left gs (None ∷ []) None p (omega (arith, g.size)) ∙ g.none p b e))
      (λ (a : i ≤ p). ap (λ us. get_or us p None) more ∙ get_or_push gs None None p (omega (arith, g.size)))
      (cases_lt p i);
  some = λ p k l e. ⊎_elim
      (λ (b : p < i).
      let (h, at, found) = g.some p k b e in
      (h, ap (λ us. get_or us p None) more ∙ (get_or_append_left gs (None ∷ []) None p (omega (arith, g.size)) ∙ at), same k ∙ found))
      (λ (a : i ≤ p). let last : p ≡ i = omega arith in absurd (none-some k (sym free ∙ (ap (λ j. get_or ks j None) (sym last) ∙ e))))
      (cases_lt p i);
}

-- a place with one
pub grouped_some : (ks : List (Option (ℕ × ℕ))) (i : ℕ) (m n : BTreeMap (ℕ × ℕ) ℕ) (gs hs : List (Option ℕ)) (k : ℕ × ℕ) → GroupedUpTo ks i m gs → get_or ks i None ≡ Some k
    → ((e : ℕ × ℕ) → get edge_cmp n e ≡ cond (is_at (edge_cmp k) e) (Some (unwrap_or (get edge_cmp m k) i)) (get edge_cmp m e))
    → hs ≡ gs ++ Some (unwrap_or (get edge_cmp m k) i) ∷ [] → GroupedUpTo ks (i + 1) n hs
grouped_some ks i m n gs hs k g here after more = record {
  size = ap length more ∙ (length_push gs (Some (unwrap_or (get edge_cmp m k) i)) ∙ ap (λ j. j + 1) g.size);
  first = λ e h at. ⊎_elim
      (λ (t : is_at (edge_cmp k) e ≡ true).
      let is = is_same k e t in
      let (b, there) = chosen (get edge_cmp m k) refl in
      let same : unwrap_or (get edge_cmp m k) i ≡ h = same_Some (unwrap_or (get edge_cmp m k) i) h (sym (at_key e t) ∙ at) in
      (omega (arith, b, same), ap (λ j. get_or ks j None) (sym same) ∙ (there ∙ ap Some is)))
      (λ (t : is_at (edge_cmp k) e ≡ false). let (b, there) = g.first e h (sym (other_key e t) ∙ at) in (omega arith, there))
      (cases_Bool (is_at (edge_cmp k) e));
  none = λ p l e. ⊎_elim
      (λ (b : p < i). before p b ∙ g.none p b e)
      (λ (a : i ≤ p). let last : p ≡ i = omega arith in absurd (none-some k (sym e ∙ (ap (λ j. get_or ks j None) last ∙ here))))
      (cases_lt p i);
  some = λ p e l at. ⊎_elim
      (λ (b : p < i).
      let (h, there, found) = g.some p e b at in (
        h,
        before p b ∙ there,
        ⊎_elim
            (λ (t : is_at (edge_cmp k) e ≡ true). at_key e t ∙ ap Some (kept e h t found))
            (λ (t : is_at (edge_cmp k) e ≡ false). other_key e t ∙ found)
            (cases_Bool (is_at (edge_cmp k) e)),
      ))
      (λ (a : i ≤ p).
      let last : p ≡ i = omega arith in
      let is : k ≡ e = same_Some k e (sym here ∙ (ap (λ j. get_or ks j None) (sym last) ∙ at)) in (
        unwrap_or (get edge_cmp m k) i,
        ap (λ us. get_or us p None) more ∙ get_or_push gs (Some (unwrap_or (get edge_cmp m k) i)) None p (omega (arith, g.size)),
        subst (λ (x : ℕ × ℕ). get edge_cmp n x ≡ Some (unwrap_or (get edge_cmp m k) i)) is (at_key k (is_there k)),
      ))
      (cases_lt p i);
}
  where
    at_key : (e : ℕ × ℕ) → is_at (edge_cmp k) e ≡ true → get edge_cmp n e ≡ Some (unwrap_or (get edge_cmp m k) i)
    at_key e t = after e ∙ ap (λ b. cond b (Some (unwrap_or (get edge_cmp m k) i)) (get edge_cmp m e)) t

    other_key : (e : ℕ × ℕ) → is_at (edge_cmp k) e ≡ false → get edge_cmp n e ≡ get edge_cmp m e
    other_key e t = after e ∙ ap (λ b. cond b (Some (unwrap_or (get edge_cmp m k) i)) (get edge_cmp m e)) t

    before : (p : ℕ) → p < i → get_or hs p None ≡ get_or gs p None
    before p b = ap (λ us. get_or us p None) more ∙ get_or_append_left gs (Some (unwrap_or (get edge_cmp m k) i) ∷ []) None p (omega (arith, g.size))

    chosen : (o : Option ℕ) → get edge_cmp m k ≡ o → unwrap_or o i < i + 1 × (get_or ks (unwrap_or o i) None ≡ Some k)
    chosen None e = (omega arith, here)
    chosen (Some x) e = let (b, there) = g.first k x e in (omega arith, there)

    kept : (e : ℕ × ℕ) (h : ℕ) → is_at (edge_cmp k) e ≡ true → get edge_cmp m e ≡ Some h → unwrap_or (get edge_cmp m k) i ≡ h
    kept e h t found = ap (λ o. unwrap_or o i) (ap (λ x. get edge_cmp m x) (is_same k e t) ∙ found)

pub grouped_more : (ks : List (Option (ℕ × ℕ))) (i : ℕ) (m n : BTreeMap (ℕ × ℕ) ℕ) (gs hs : List (Option ℕ)) (o : Option (ℕ × ℕ)) → GroupedUpTo ks i m gs → get_or ks i None ≡ o
    → ((k : ℕ × ℕ) → get edge_cmp n k ≡ grouped m o i k) → hs ≡ gs ++ group_in m o i ∷ [] → GroupedUpTo ks (i + 1) n hs
grouped_more ks i m n gs hs None g e after more = grouped_none ks i m n gs hs g e after more
grouped_more ks i m n gs hs (Some k) g e after more = grouped_some ks i m n gs hs k g e after more

pub groups_are : (ks : List (Option (ℕ × ℕ))) (i : ℕ) (m : BTreeMap (ℕ × ℕ) ℕ) (gs : List (Option ℕ)) → GroupedUpTo ks i m gs → i ≡ length ks → AreGroups ks gs
groups_are ks i m gs g all = record {
  size = g.size ∙ all;
  none = none;
  some = λ p k e. let (h, at, found) = g.some p k (within p k e) e in (h, at, omega (arith, all, (g.first k h found).0));
  same = λ p q h a b. same p q h a b (get_or ks p None) (get_or ks q None) refl refl;
  one = λ p q k a b.
      let (h, at, found) = g.some p k (within p k a) a in
      let (j, there, also) = g.some q k (within q k b) b in
      at ∙ (sym found ∙ (also ∙ sym there));
}
  where
    within : (p : ℕ) (k : ℕ × ℕ) → get_or ks p None ≡ Some k → p < i
    within p k e = ⊎_elim (λ (b : p < i). b) (λ a. absurd (none-some k (sym (get_or_past ks p None (omega (arith, all))) ∙ e))) (cases_lt p i)

    none : (p : ℕ) → get_or ks p None ≡ None → get_or gs p None ≡ None
    none p e = ⊎_elim (λ (b : p < i). g.none p b e) (λ a. get_or_past gs p None (omega (arith, g.size))) (cases_lt p i)

    same_key : (x y : ℕ × ℕ) (j l : ℕ) → get edge_cmp m x ≡ Some j → get edge_cmp m y ≡ Some l → j ≡ l → x ≡ y
    same_key x y j l found also is =
        same_Some x y (sym (g.first x j found).1 ∙ (ap (λ k. get_or ks k None) is ∙ (g.first y l also).1))

    same : (p q h : ℕ) → get_or gs p None ≡ Some h → get_or gs q None ≡ Some h → (x y : Option (ℕ × ℕ)) → get_or ks p None ≡ x → get_or ks q None ≡ y → get_or ks p None ≡ get_or ks q None
    same p q h a b None y e f = absurd (none-some h (sym (none p e) ∙ a))
    same p q h a b (Some x) None e f = absurd (none-some h (sym (none q f) ∙ b))
    same p q h a b (Some x) (Some y) e f =
        let (j, at, found) = g.some p x (within p x e) e in
        let (l, there, also) = g.some q y (within q y f) f in
        let is : j ≡ l = same_Some j h (sym at ∙ a) ∙ sym (same_Some l h (sym there ∙ b)) in
        e ∙ (ap Some (same_key x y j l found also is) ∙ sym f)

-- the key of a value of a group, and the state that a value names, by place
key_at : (f : FuncRecord) (ns : List (Option ℕ)) (ks : List (Option (ℕ × ℕ))) (gs : List (Option ℕ)) → AreGroups ks gs
    → ((p : ℕ) (m : NodeRecord) → slice_get (nodes_of f) p ≡ Some m → get_or ks p None ≡ key_of m.home (get_or ns p None)) → (p g : ℕ) (m : NodeRecord) → slice_get (nodes_of f) p ≡ Some m
    → get_or gs p None ≡ Some g → (t : ℕ) × (get_or ns p None ≡ Some t) × (get_or ks p None ≡ Some (m.home, t))
key_at f ns ks gs groups keys p g m e at = by (get_or ns p None) refl
  where
    by : (o : Option ℕ) → get_or ns p None ≡ o → (t : ℕ) × (get_or ns p None ≡ Some t) × (get_or ks p None ≡ Some (m.home, t))
    by None h = absurd (none-some g (sym (groups.none p (keys p m e ∙ ap (key_of m.home) h)) ∙ at))
    by (Some t) h = (t, h, keys p m e ∙ ap (key_of m.home) h)

names_at : (f : FuncRecord) (ns : List (Option ℕ)) → AreNamed f ns → (p s : ℕ) (m : NodeRecord) → slice_get (nodes_of f) p ≡ Some m → Names f m.value s
    → (t : ℕ) × (n : NodeRecord) × (get_or ns p None ≡ Some t) × (slice_get (nodes_of f) t ≡ Some n) × (s ≡ n.value.id)
names_at f ns named p s m e names = by (get_or ns p None) refl
  where
    by : (o : Option ℕ) → get_or ns p None ≡ o → (t : ℕ) × (n : NodeRecord) × (get_or ns p None ≡ Some t) × (slice_get (nodes_of f) t ≡ Some n) × (s ≡ n.value.id)
    by None h = absurd (subst (λ (o : Option ℕ). NamesIf f m.value o) h (named.each p m e) s names)
    by (Some t) h = let (n, at, is) = subst (λ (o : Option ℕ). NamesIf f m.value o) h (named.each p m e) in (t, n, h, at, (is s).0 names)

names_from : (f : FuncRecord) (ns : List (Option ℕ)) → AreNamed f ns → (p t : ℕ) (m : NodeRecord) → slice_get (nodes_of f) p ≡ Some m → get_or ns p None ≡ Some t
    → (n : NodeRecord) × (slice_get (nodes_of f) t ≡ Some n) × Names f m.value n.value.id
names_from f ns named p t m e h = let (n, at, is) = subst (λ (o : Option ℕ). NamesIf f m.value o) h (named.each p m e) in (n, at, (is n.value.id).1 refl)

-- groups by keys are groups of values that name one state in one block
pub groups_named : (f : FuncRecord) → AreValues f → (ns : List (Option ℕ)) → AreNamed f ns → (ks : List (Option (ℕ × ℕ))) (gs : List (Option ℕ)) → AreGroups ks gs → length ks ≡ length (nodes_of f)
    → ((p : ℕ) (m : NodeRecord) → slice_get (nodes_of f) p ≡ Some m → get_or ks p None ≡ key_of m.home (get_or ns p None)) → AreGroupsOf f gs
groups_named f values ns named ks gs groups long keys = record {
  size = groups.size ∙ long;
  within = within;
  named = λ p g m e at.
      let (t, nt, kt) = key_at f ns ks gs groups keys p g m e at in
      let (n, en, names) = names_from f ns named p t m e nt in
      (n.value.id, names);
  home = λ p q g m o ep eq gp gq.
      let (t, nt, kt) = key_at f ns ks gs groups keys p g m ep gp in
      let (u, nu, ku) = key_at f ns ks gs groups keys q g o eq gq in
      ap (λ k. k.0) (same_Some (m.home, t) (o.home, u) (sym kt ∙ (groups.same p q g gp gq ∙ ku)));
  same = λ p q g s m o ep eq gp gq names.
      let (t, nt, kt) = key_at f ns ks gs groups keys p g m ep gp in
      let (u, nu, ku) = key_at f ns ks gs groups keys q g o eq gq in
      let state : t ≡ u = ap (λ k. k.1) (same_Some (m.home, t) (o.home, u) (sym kt ∙ (groups.same p q g gp gq ∙ ku))) in
      let (r, n, hr, en, is) = names_at f ns named p s m ep names in
      let (w, ew, other) = names_from f ns named q u o eq nu in
      let place : r ≡ u = same_Some r t (sym hr ∙ nt) ∙ state in
      let node : n ≡ w = same_Some n w (sym en ∙ (ap (slice_get (nodes_of f)) place ∙ ew)) in
      subst (λ (k : ℕ). Names f o.value k) (sym (is ∙ ap (λ (x : NodeRecord). x.value.id) node)) other;
  one = λ p q s m o ep eq home nm no.
      let (t, n, ht, en, is) = names_at f ns named p s m ep nm in
      let (u, w, hu, ew, also) = names_at f ns named q s o eq no in
      let place : t ≡ u = (one_node f values t u n w en ew (sym is ∙ also)).0 in
      let kp : get_or ks p None ≡ Some (m.home, t) = keys p m ep ∙ ap (key_of m.home) ht in
      let kq : get_or ks q None ≡ Some (m.home, t) = keys q o eq ∙ (ap (key_of o.home) hu ∙ (ap (λ h. Some (h, u)) (sym home) ∙ ap (λ x. Some (m.home, x)) (sym place))) in
      let (g, gp, low) = groups.some p (m.home, t) kp in
      (g, gp, sym (groups.one p q (m.home, t) kp kq) ∙ gp);
}
  where
    within : (p g : ℕ) → get_or gs p None ≡ Some g → g < length (nodes_of f)
    within p g at = by (get_or ks p None) refl
      where
        by : (o : Option (ℕ × ℕ)) → get_or ks p None ≡ o → g < length (nodes_of f)
        by None h = absurd (none-some g (sym (groups.none p h) ∙ at))
        by (Some k) h = let (x, gx, low) = groups.some p k h in omega (arith, same_Some x g (sym gx ∙ at), long)

-- the members of groups are listed
pub listed_of : (f : FuncRecord) (gs : List (Option ℕ)) → AreGroupsOf f gs → (P : ℕ → NodeRecord → Type 0) (cs : List Bool) (es : List (List ℕ)) → ArePicked f P cs → AreMembers (length gs) gs cs (length gs) es
    → AreListed f gs P es
listed_of f gs groups P cs es picked m = record {
  size = m.size ∙ groups.size;
  each = λ g p. (
    (λ c.
        let (low, at, chosen) = (m.each g p).0 c in
        let (n, en) = at_some (nodes_of f) p (omega (arith, groups.size)) in
        (n, en, at, (picked.each p n en).0 chosen)),
    (λ (n, en, at, fact). (m.each g p).1 (omega (arith, groups.size, slice_get_within (nodes_of f) p n en), at, (picked.each p n en).1 fact)),
  );
  rising = m.rising;
}

-- marks one after the other
pub picked_all : (f : FuncRecord) (P : ℕ → NodeRecord → Type 0) (bs : List Bool) (i : ℕ) → i ≡ length (nodes_of f)
    → Filled (λ (p : ℕ) (b : Bool). (m : NodeRecord) → slice_get (nodes_of f) p ≡ Some m → (b ≡ true) ↔ P p m) false bs i → ArePicked f P bs
picked_all f P bs i all filled = record { each = λ p m e. filled.each p (omega (arith, all, slice_get_within (nodes_of f) p m e)) m e }

-- a place with a home is that of a state
pub next_is : (f : FuncRecord) (hs : List (Option ℕ)) → AreHomes f hs → (p : ℕ) (m : NodeRecord) (b : Bool) → b ≡ is_some (get_or hs p None) → (b ≡ true) ↔ IsNextAt f p m
next_is f hs homes p m b same = by (get_or hs p None) refl
  where
    by : (o : Option ℕ) → get_or hs p None ≡ o → (b ≡ true) ↔ IsNextAt f p m
    by None e = (
      (λ t. absurd (false≢true (sym (same ∙ ap is_some e) ∙ t))),
      (λ (i, at). absurd (none-some i (sym e ∙ (homes.each p i).1 at))),
    )
    by (Some i) e = ((λ t. (i, (homes.each p i).0 e)), (λ h. same ∙ ap is_some e))
