-- What values name of memory, and what numbers stand for.
use Rattle.std.proofs.Common.{◌≡◌, ◌∙◌, sym, refl, ap, subst, ℕ, ◌+◌, ◌<◌, ◌≤◌, ◌⊎◌, ◌↔◌, List, [], ◌∷◌, ◌++◌, length, get_or, set, replicate, Option, None, Some, inl, inr, ⊎_elim, arith}
use Rattle.std.specs.List.{Contains, slice_get}
use Rattle.std.proofs.lemmas.Bool.{cases_eq, cases_lt}
use Rattle.std.proofs.lemmas.List.{get_or_past, get_or-replicate, get_or-set_other, get_or-set_same, length-replicate, length-set}
use Rattle.std.proofs.lemmas.List.Elements.{Contains-append_left, Contains-push, Contains-push_cases}
use Rattle.std.proofs.lemmas.Option.{slice_get_within, none-some, same_Some}
use Rattle.bk_func.specs.Records.{ValueRecord, BlockRecord}
use Rattle.bk_func.specs.Form.States.{CopiesMemory}
use Rattle.bk_places.proofs.Elements.{at_contains, at_some, contains_at, none_in}
use Rattle.bk_places.proofs.Filling.{Filled}
use Rattle.bk_places.proofs.Positions.{one_number, place_found, place_gets}
use Rattle.bk_places.proofs.Reaching.{path_start, path_more}
use Rattle.bk_places.proofs.Sowing.{Sown}
use Rattle.bk_places.specs.Named.{NamesBy, place_in}
use Rattle.bk_places.specs.Search.{IsEdge, Path, here, onward, with_edge}
use Rattle.bk_places.proofs.NamesAt.{copies_first_arg}
use Rattle.bk_sched.specs.Named.{AreCopies, AreKnown, AreNamed, AreRoots, Copies, IsCopyAt, NamesPlace}
use Rattle.bk_sched.specs.Order.{HasOwnNumbers, Names, StandsFor, outside, itself, copied}
use Rattle.bk_sched.proofs.Placing.{own_place, place_above, place_below}

-- the starts of the search: numbers that are not those of copies
abbrev pub IsRoot : BlockRecord → ℕ → Type 0
IsRoot b p = ¬ ((v : ValueRecord) × (slice_get b.values p ≡ Some v) × CopiesMemory v)

-- a path along copies says what a number stands for
path_stands : (b : BlockRecord) → HasOwnNumbers b → (ns : List ℕ) → AreKnown b.values ns → (es : List (List ℕ)) → AreCopies b.values ns (length b.values) es → (r p : ℕ) → Path es (length es) r p → IsRoot b r
    → (n s : ℕ) → place_in ns n ≡ Some p → place_in ns s ≡ Some r → StandsFor b n s
path_stands b own ns known es copies r _ (here within) root n s en es' =
    let same : n ≡ s = one_number ns n s r en es' in
    subst (λ (m : ℕ). StandsFor b n m) same (⊎_elim
    (λ (low : r < length b.values).
    let (v, ev, is) = place_below b ns known n r en low in
    subst (λ (m : ℕ). StandsFor b m m) is (itself v (contains_at b.values r v ev) (λ c. root (v, ev, c))))
    (λ (high : length b.values ≤ r). outside n (place_above b own ns known n r en high))
    (cases_lt r (length b.values)))
path_stands b own ns known es copies r _ (onward t p path apart edge within) root n s en es' =
    let (low, (v, ev, (is, (m, names, em)))) = (copies.edge t p).0 edge in
    let rest : StandsFor b m s = path_stands b own ns known es copies r t path root m s em es' in
    let (u, eu, number) = place_below b ns known n p en low in
    let value : u ≡ v = same_Some u v (sym eu ∙ ev) in
    let id : v.id ≡ n = ap (λ (w : ValueRecord). w.id) (sym value) ∙ number in
    subst (λ (k : ℕ). StandsFor b k s) id (copied v m s (contains_at b.values p v ev) is (copies_first_arg v m is names) rest)

-- the number that a number stands for has a place, from which a path leads
record Rooted (b : BlockRecord) (ns : List ℕ) (es : List (List ℕ)) (s p r : ℕ) : Type 0 where
  pub place : place_in ns s ≡ Some r
  pub path : Path es (length es) r p
  pub root : IsRoot b r

stands_path : (b : BlockRecord) → HasOwnNumbers b → (ns : List ℕ) → AreKnown b.values ns → (es : List (List ℕ)) → AreCopies b.values ns (length b.values) es → (n s : ℕ) → StandsFor b n s → (p : ℕ) → place_in ns n ≡ Some p
    → (r : ℕ) × Rooted b ns es s p r
stands_path b own ns known es copies _ _ (outside n free) p en = (
  p,
  record {
    place = en;
    path = here (omega (arith, copies.size, slice_get_within ns p n (place_gets ns n p en)));
    root = λ (v, ev, c). free (v, contains_at b.values p v ev, same_Some v.id n (sym (known.own p v ev) ∙ place_gets ns n p en));
  },
)
stands_path b own ns known es copies _ _ (itself v inside other) p en =
    let (j, ej) = at_contains b.values v inside in
    let same : j ≡ p = same_Some j p (sym (own_place b own ns known j v ej) ∙ en) in (
      p,
      record {
        place = en;
        path = here (omega (arith, copies.size, slice_get_within ns p v.id (place_gets ns v.id p en)));
        root = λ (u, eu, c). other (subst CopiesMemory (same_Some u v (sym eu ∙ (ap (slice_get b.values) (sym same) ∙ ej))) c);
      },
    )
stands_path b own ns known es copies _ _ (copied v m s inside is first rest) p en =
    let (j, ej) = at_contains b.values v inside in
    let same : j ≡ p = same_Some j p (sym (own_place b own ns known j v ej) ∙ en) in
    let at : slice_get b.values p ≡ Some v = ap (slice_get b.values) (sym same) ∙ ej in
    let names : NamesBy v m = (0, inl (is, refl), first) in
    let (t, et) = place_found ns m (known.named p m v at names) in
    let (r, h) = stands_path b own ns known es copies m s rest t et in
    let low = slice_get_within b.values p v at in (
      r,
      record {
        place = h.place;
        path = path_more es r t p h.path ((copies.edge t p).1 (low, (v, at, (is, (m, names, et))))) (omega (arith, low, known.long, copies.size));
        root = h.root;
      },
    )

-- a place that paths lead to from one with a number has a number too
path_number : (b : BlockRecord) (ns : List ℕ) (es : List (List ℕ)) → AreCopies b.values ns (length b.values) es → (r p : ℕ) → Path es (length es) r p → (n : ℕ) → place_in ns n ≡ Some p → (s : ℕ) × (place_in ns s ≡ Some r)
path_number b ns es copies r _ (here within) n en = (n, en)
path_number b ns es copies r _ (onward t p path apart edge within) n en =
    let (low, (v, ev, (is, (m, names, em)))) = (copies.edge t p).0 edge in
    path_number b ns es copies r t path m em

-- what is no copy has no edge to it, and a copy has one
no_edge : (b : BlockRecord) (ns : List ℕ) (es : List (List ℕ)) → AreCopies b.values ns (length b.values) es → (p r : ℕ) → IsRoot b r → IsEdge es p r → ⊥
no_edge b ns es copies p r root edge = let (low, (v, ev, (is, rest))) = (copies.edge p r).0 edge in root (v, ev, is)

one_edge : (b : BlockRecord) (ns : List ℕ) (es : List (List ℕ)) → AreCopies b.values ns (length b.values) es → (p q r : ℕ) → IsEdge es p r → IsEdge es q r → p ≡ q
one_edge b ns es copies p q r c d =
    let (l, (v, ev, (is, (n, nv, en)))) = (copies.edge p r).0 c in
    let (m, (u, eu, (is', (k, nu, ek)))) = (copies.edge q r).0 d in
    let same : v ≡ u = same_Some v u (sym ev ∙ eu) in
    let number : n ≡ k = same_Some n k (sym (copies_first_arg v n is nv) ∙ (ap (λ (w : ValueRecord). slice_get w.args 0) same ∙ copies_first_arg u k is' nu)) in
    same_Some p q (sym en ∙ (ap (place_in ns) number ∙ ek))

last_step : (es : List (List ℕ)) (s p : ℕ) → Path es (length es) s p → (p ≡ s) ⊎ ((q : ℕ) × Path es (length es) s q × IsEdge es q p)
last_step es s _ (here within) = inl refl
last_step es s _ (onward q p path apart edge within) = inr (q, path, edge)

one_root : (b : BlockRecord) (ns : List ℕ) (es : List (List ℕ)) → AreCopies b.values ns (length b.values) es → (r s p : ℕ) → IsRoot b r → IsRoot b s → Path es (length es) r p → Path es (length es) s p → r ≡ s
one_root b ns es copies r s _ root start (here within) path' = ⊎_elim
    (λ (same : r ≡ s). same)
    (λ (q, path, edge). absurd (no_edge b ns es copies q r root edge))
    (last_step es s r path')
one_root b ns es copies r s _ root start (onward q p path apart edge within) path' = ⊎_elim
    (λ (same : p ≡ s). absurd (no_edge b ns es copies q s start (subst (λ (j : ℕ). IsEdge es q j) same edge)))
    (λ (t, front, edge').
    one_root b ns es copies r s q root start path (subst (λ (j : ℕ). Path es (length es) s j) (sym (one_edge b ns es copies q t p edge edge')) front))
    (last_step es s p path')

pub roots_are : (b : BlockRecord) → HasOwnNumbers b → (ns : List ℕ) → AreKnown b.values ns → (es : List (List ℕ)) → AreCopies b.values ns (length b.values) es → (ls : List (Option ℕ)) (xs : List ℕ) (i : ℕ)
    → Sown es (length es) (IsRoot b) i ls xs → length es ≤ i → AreRoots b ns ls
roots_are b own ns known es copies ls xs i s over = record {
  within = λ p r e. let (low, root, path) = s.from p r e in omega (arith, path_start es (length es) r p path, copies.size);
  sound = λ n p r en e.
      let (low, root, path) = s.from p r e in
      let (m, em) = path_number b ns es copies r p path n en in
      (m, em, path_stands b own ns known es copies r p path root n m en em);
  whole = λ n m p en stands.
      let (r, h) = stands_path b own ns known es copies n m stands p en in
      let (l, e) = s.found r p (omega (arith, over, path_start es (length es) r p h.path)) h.root h.path in
      let (low, root, path) = s.from p l e in
      (r, h.place, e ∙ ap Some (sym (one_root b ns es copies r l p h.root root h.path path)));
}

-- no value below the first copies
pub copies_none : (vs : List ValueRecord) (ns : List ℕ) (es : List (List ℕ)) (n : ℕ) → es ≡ replicate n [] → n ≡ length ns → AreCopies vs ns 0 es
copies_none vs ns es n none same = record {
  size = ap length none ∙ (length-replicate n [] ∙ same);
  edge = λ p q. ((λ m. absurd (none_in q (subst (λ (us : List ℕ). Contains us q) (ap (λ us. get_or us p []) none ∙ nothing p) m))), (λ (l, c). absurd (omega (arith, l))));
}
  where
    nothing : (p : ℕ) → get_or {A = List ℕ} (replicate n []) p [] ≡ []
    nothing p = ⊎_elim (λ (b : p < n). get_or-replicate n p [] [] b) (λ a. get_or_past (replicate n []) p [] (rw length-replicate a)) (cases_lt p n)

-- one more value is looked at
pub copies_more : (vs : List ValueRecord) (ns : List ℕ) (i : ℕ) (es : List (List ℕ)) (v : ValueRecord) (o : Option ℕ) → AreCopies vs ns i es → slice_get vs i ≡ Some v
    → ((p : ℕ) → (o ≡ Some p) ↔ Copies ns v p) → AreCopies vs ns (i + 1) (with_edge es o i)
copies_more vs ns i es v None c at none = record {
  size = c.size;
  edge = λ p q. ((λ e. let (l, h) = (c.edge p q).0 e in (omega (arith, l), h)), (λ (l, h). (c.edge p q).1 (below p q l h, h)));
}
  where
    below : (p q : ℕ) → q < i + 1 → IsCopyAt vs ns p q → q < i
    below p q l (x, ex, h) = ⊎_elim
        (λ (b : q < i). b)
        (λ (a : i ≤ q).
        let same : q ≡ i = omega (arith, l, a) in
        let value : x ≡ v = same_Some x v (sym ex ∙ (ap (λ k. slice_get vs k) same ∙ at)) in
        absurd (none-some p ((none p).1 (subst (λ (w : ValueRecord). Copies ns w p) value h))))
        (cases_lt q i)
copies_more vs ns i es v (Some x) c at one = record {
  size = length-set es x (get_or es x [] ++ i ∷ []) ∙ c.size;
  edge = λ p q. ⊎_elim (λ same. (to_same p q same, from_same p q same)) (λ apart. (to_other p q apart, from_other p q apart)) (cases_eq p x);
}
  where
    source : Copies ns v x
    source = (one x).0 refl

    within : x < length es
    within = let (is, (n, names, e)) = source in omega (arith, c.size, slice_get_within ns x n (place_gets ns n x e))

    value : (q : ℕ) (y : ValueRecord) → slice_get vs q ≡ Some y → q ≡ i → y ≡ v
    value q y ey same = same_Some y v (sym ey ∙ (ap (λ k. slice_get vs k) same ∙ at))

    at_same : (p : ℕ) → p ≡ x → get_or (set es x (get_or es x [] ++ i ∷ [])) p [] ≡ get_or es x [] ++ i ∷ []
    at_same p same = ap (λ k. get_or (set es x (get_or es x [] ++ i ∷ [])) k []) same ∙ get_or-set_same es x (get_or es x [] ++ i ∷ []) [] within

    to_same : (p q : ℕ) → p ≡ x → IsEdge (set es x (get_or es x [] ++ i ∷ [])) p q → q < i + 1 × IsCopyAt vs ns p q
    to_same p q same e = ⊎_elim
        (λ old. let (l, h) = (c.edge x q).0 old in (omega (arith, l), subst (λ (k : ℕ). IsCopyAt vs ns k q) (sym same) h))
        (λ (new : i ≡ q). (omega (arith, new), (v, subst (λ (k : ℕ). slice_get vs k ≡ Some v) new at, subst (λ (k : ℕ). Copies ns v k) (sym same) source)))
        (Contains-push_cases (get_or es x []) i q (subst (λ (us : List ℕ). Contains us q) (at_same p same) e))

    from_same : (p q : ℕ) → p ≡ x → q < i + 1 × IsCopyAt vs ns p q → IsEdge (set es x (get_or es x [] ++ i ∷ [])) p q
    from_same p q same (l, h) =
        subst (λ (us : List ℕ). Contains us q) (sym (at_same p same)) (⊎_elim
        (λ (b : q < i). Contains-append_left (get_or es x []) (i ∷ []) q ((c.edge x q).1 (b, subst (λ (k : ℕ). IsCopyAt vs ns k q) same h)))
        (λ (a : i ≤ q). let is : i ≡ q = omega (arith, l, a) in subst (λ (k : ℕ). Contains (get_or es x [] ++ i ∷ []) k) is (Contains-push (get_or es x []) i))
        (cases_lt q i))

    to_other : (p q : ℕ) → (p ≡ x → ⊥) → IsEdge (set es x (get_or es x [] ++ i ∷ [])) p q → q < i + 1 × IsCopyAt vs ns p q
    to_other p q apart e =
        let (l, h) = (c.edge p q).0 (subst (λ (us : List ℕ). Contains us q) (get_or-set_other es x p (get_or es x [] ++ i ∷ []) [] apart) e) in (omega (arith, l), h)

    from_other : (p q : ℕ) → (p ≡ x → ⊥) → q < i + 1 × IsCopyAt vs ns p q → IsEdge (set es x (get_or es x [] ++ i ∷ [])) p q
    from_other p q apart (l, (y, ey, h)) =
        subst (λ (us : List ℕ). Contains us q) (sym (get_or-set_other es x p (get_or es x [] ++ i ∷ []) [] apart)) (⊎_elim
        (λ (b : q < i). (c.edge p q).1 (b, (y, ey, h)))
        (λ (a : i ≤ q). let is : q ≡ i = omega (arith, l, a) in absurd (apart (sym (same_Some x p ((one p).1 (subst (λ (w : ValueRecord). Copies ns w p) (value q y ey is) h))))))
        (cases_lt q i))

-- the states that values name, by places
pub named_all : (b : BlockRecord) (ns : List ℕ) → AreKnown b.values ns → (rs : List (Option ℕ)) → AreRoots b ns rs → (gs : List (Option ℕ)) (i : ℕ) → i ≡ length b.values
    → Filled (λ (p : ℕ) (o : Option ℕ). (v : ValueRecord) → slice_get b.values p ≡ Some v → NamesPlace ns rs v o) None gs i → AreNamed b ns gs
named_all b ns known rs roots gs i all filled = record {
  size = filled.size ∙ all;
  within = λ p g e.
      let (v, ev) = at_some b.values p (inside p g e) in
      let (n, q, names, en, er) = (at p v ev g).0 e in
      roots.within q g er;
  named = λ p g v ev e. let (s, es, names) = sound p g v ev e in (s, names);
  same = λ p q g s u v eu ev gu gv names.
      let (r, es, er) = whole p s u eu names in
      let is : r ≡ g = same_Some r g (sym er ∙ gu) in
      let (t, et, other) = sound q g v ev gv in
      let number : t ≡ s = one_number ns t s g et (es ∙ ap Some is) in
      subst (λ (m : ℕ). Names b v m) number other;
  one = λ p q s u v eu ev nu nv.
      let (r, es, er) = whole p s u eu nu in
      let (t, et, at_t) = whole q s v ev nv in
      (r, er, at_t ∙ (sym et ∙ es));
}
  where
    inside : (p g : ℕ) → get_or gs p None ≡ Some g → p < length b.values
    inside p g e = ⊎_elim
        (λ (low : p < length b.values). low)
        (λ (high : length b.values ≤ p). absurd (none-some g (sym (get_or_past gs p None (omega (arith, high, filled.size, all))) ∙ e)))
        (cases_lt p (length b.values))

    at : (p : ℕ) (v : ValueRecord) → slice_get b.values p ≡ Some v → NamesPlace ns rs v (get_or gs p None)
    at p v ev = filled.each p (omega (arith, all, slice_get_within b.values p v ev)) v ev

    sound : (p g : ℕ) (v : ValueRecord) → slice_get b.values p ≡ Some v → get_or gs p None ≡ Some g → (s : ℕ) × (place_in ns s ≡ Some g) × Names b v s
    sound p g v ev e =
        let (n, q, (k, where_at, first), en, er) = (at p v ev g).0 e in
        let (s, es, stands) = roots.sound n q g en er in
        (s, es, (k, n, where_at, first, stands))

    whole : (p s : ℕ) (v : ValueRecord) → slice_get b.values p ≡ Some v → Names b v s → (r : ℕ) × (place_in ns s ≡ Some r) × (get_or gs p None ≡ Some r)
    whole p s v ev (k, n, where_at, first, stands) =
        let names : NamesBy v n = (k, where_at, first) in
        let (q, eq) = place_found ns n (known.named p n v ev names) in
        let (r, es, er) = roots.whole n s q eq stands in
        (r, es, (at p v ev r).1 (n, q, names, eq, er))

-- the place of the state that a value names, by what is found
pub names_nothing : (ns : List ℕ) (rs : List (Option ℕ)) (v : ValueRecord) → ((n : ℕ) → ¬ NamesBy v n) → NamesPlace ns rs v None
names_nothing ns rs v none = λ g. ((λ e. absurd (none-some g e)), (λ (n, p, names, en, er). absurd (none n names)))

pub names_nowhere : (ns : List ℕ) (rs : List (Option ℕ)) (v : ValueRecord) (n : ℕ) → ((m : ℕ) → NamesBy v m ↔ (m ≡ n)) → place_in ns n ≡ None → NamesPlace ns rs v None
names_nowhere ns rs v n one none = λ g. (
  (λ e. absurd (none-some g e)),
  (λ (m, p, names, em, er). absurd (none-some p (sym none ∙ (ap (place_in ns) (sym ((one m).0 names)) ∙ em)))),
)

pub names_root : (ns : List ℕ) (rs : List (Option ℕ)) (v : ValueRecord) (n p : ℕ) → ((m : ℕ) → NamesBy v m ↔ (m ≡ n)) → place_in ns n ≡ Some p → (o : Option ℕ) → o ≡ get_or rs p None → NamesPlace ns rs v o
names_root ns rs v n p one en o is = λ g. (
  (λ e. (n, p, (one n).1 refl, en, sym is ∙ e)),
  (λ (m, q, names, em, er).
      let place : q ≡ p = same_Some q p (sym em ∙ (ap (place_in ns) ((one m).0 names) ∙ en)) in
      is ∙ (ap (λ k. get_or rs k None) (sym place) ∙ er)),
)

-- the place of what a value copies, by what is found
pub copies_not : (ns : List ℕ) (v : ValueRecord) → ¬ CopiesMemory v → (p : ℕ) → (None ≡ Some p) ↔ Copies ns v p
copies_not ns v other p = ((λ e. absurd (none-some p e)), (λ h. absurd (other h.0)))

pub copies_nothing : (ns : List ℕ) (v : ValueRecord) → ((n : ℕ) → ¬ NamesBy v n) → (p : ℕ) → (None ≡ Some p) ↔ Copies ns v p
copies_nothing ns v none p = ((λ e. absurd (none-some p e)), (λ (is, (n, names, en)). absurd (none n names)))

pub copies_place : (ns : List ℕ) (v : ValueRecord) (n : ℕ) → CopiesMemory v → ((m : ℕ) → NamesBy v m ↔ (m ≡ n)) → (o : Option ℕ) → o ≡ place_in ns n → (p : ℕ) → (o ≡ Some p) ↔ Copies ns v p
copies_place ns v n copies one o is p = (
  (λ e. (copies, (n, (one n).1 refl, sym is ∙ e))),
  (λ (c, (m, names, em)). is ∙ (ap (place_in ns) (sym ((one m).0 names)) ∙ em)),
)
