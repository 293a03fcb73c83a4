-- What copies of memory stand for.
use Rattle.std.proofs.Common.{◌≡◌, ◌∙◌, sym, refl, ap, subst, ℕ, ◌+◌, ◌<◌, ◌≤◌, ◌⊎◌, ◌↔◌, List, [], ◌∷◌, ◌++◌, map, length, get_or, set, replicate, Option, None, Some, inl, inr, ⊎_elim, arith}
use Rattle.std.specs.List.{Contains, flat_map, slice_get}
use Rattle.std.specs.Option.{MatchOption}
use Rattle.std.proofs.lemmas.Bool.{cases_eq, cases_lt}
use Rattle.std.proofs.lemmas.List.{get_or_past, get_or-replicate, get_or-set_other, get_or-set_same, length-append, length-map, length-replicate, length-set}
use Rattle.std.proofs.lemmas.List.Elements.{Contains-append_left, Contains-push, Contains-push_cases}
use Rattle.std.proofs.lemmas.Option.{slice_get_within, get_or_from_slice_get, same_Some}
use Rattle.bk_func.specs.Records.{ValueRecord, BlockRecord, FuncRecord}
use Rattle.bk_func.specs.declared.form.FormKind.TheVariants.{Missing}
use Rattle.bk_func.specs.Form.{Keeps}
use Rattle.bk_func.specs.Form.Signatures.{Setting}
use Rattle.bk_func.specs.Form.Text.{HasValue}
use Rattle.bk_func.specs.Form.States.{CopiesMemory, StandsFor, itself, copied}
use Rattle.bk_func.specs.Form.Parts.{IsValueNumber}
use Rattle.bk_places.proofs.Elements.{none_in, contains_at, at_contains, at_some}
use Rattle.bk_places.proofs.Reaching.{path_within}
use Rattle.bk_places.proofs.Sowing.{Sown}
use Rattle.bk_places.specs.Search.{IsEdge, Path, here, onward, with_edge}
use Rattle.bk_form.specs.Numbers.{value_ids, sole}
use Rattle.bk_form.specs.Places.{NodeRecord, node_at, nodes_from, nodes_of}
use Rattle.bk_form.specs.Roots.{Copies, IsCopyAt, AreCopies, AreRoots}
use Rattle.bk_form.proofs.Bearers.{sole_is}
use Rattle.bk_form.proofs.Standing.{node_stands, node_for, node_of, node_alone}

-- the numbers of values and of their arguments name one value each
pub record AreValues (f : FuncRecord) : Type 0 where
  pub own : (b : BlockRecord) (v : ValueRecord) → HasValue f b v → IsValueNumber f v.id
  pub argument : (b : BlockRecord) (v : ValueRecord) (k n : ℕ) → HasValue f b v → slice_get v.args k ≡ Some n → IsValueNumber f n

-- as many places as numbers
length_from : (i : ℕ) (bs : List BlockRecord) → length (flat_map (λ b. map (λ v. v.id) b.values) bs) ≡ length (nodes_from i bs)
unfolding nodes_from
length_from i [] = refl
length_from i (b ∷ bs) =
    length-append (map (λ (v : ValueRecord). v.id) b.values) (flat_map (λ b. map (λ v. v.id) b.values) bs)
    ∙ (ap (λ n. n + length (flat_map (λ b. map (λ v. v.id) b.values) bs)) (length-map b.values (λ (v : ValueRecord). v.id) ∙ sym (length-map b.values (node_at i)))
    ∙ (ap (λ n. length (map (node_at i) b.values) + n) (length_from (i + 1) bs) ∙ sym (length-append (map (node_at i) b.values) (nodes_from (i + 1) bs))))

length_values : (f : FuncRecord) → length (value_ids f) ≡ length (nodes_of f)
length_values f = length_from 0 f.blocks

-- the value at a place stands in the function, and its number names it
pub stands_at : (f : FuncRecord) (p : ℕ) (m : NodeRecord) → slice_get (nodes_of f) p ≡ Some m → (b : BlockRecord) × HasValue f b m.value
stands_at f p m e = let (j, b, home, at, inside) = node_stands 0 f.blocks p m e in (b, (contains_at f.blocks j b at, inside))

pub named_at : (f : FuncRecord) → AreValues f → (p : ℕ) (m : NodeRecord) → slice_get (nodes_of f) p ≡ Some m → sole (value_ids f) m.value.id ≡ Some p
named_at f values p m e = let (b, has) = stands_at f p m e in node_alone f m.value.id p m (values.own b m.value has) e refl

pub place_for : (f : FuncRecord) (b : BlockRecord) (v : ValueRecord) → HasValue f b v → (p : ℕ) × (m : NodeRecord) × (slice_get (nodes_of f) p ≡ Some m) × (m.value ≡ v)
place_for f b v (hb, hv) =
    let (i, e) = at_contains f.blocks b hb in
    let (p, at) = node_for 0 f.blocks i b v e hv in
    (p, node_at (0 + i) v, at, refl)

-- a number names one place
pub one_node : (f : FuncRecord) → AreValues f → (p q : ℕ) (m o : NodeRecord) → slice_get (nodes_of f) p ≡ Some m → slice_get (nodes_of f) q ≡ Some o → m.value.id ≡ o.value.id
    → (p ≡ q) × (m ≡ o)
one_node f values p q m o ep eq same =
    let place : p ≡ q = same_Some p q (sym (named_at f values p m ep) ∙ (ap (λ n. sole (value_ids f) n) same ∙ named_at f values q o eq)) in
    (place, same_Some m o (sym ep ∙ (ap (λ k. slice_get (nodes_of f) k) place ∙ eq)))

-- a path along copies says what a value stands for
path_stands : (f : FuncRecord) → AreValues f → (es : List (List ℕ)) → AreCopies f (length (nodes_of f)) es → (a r p : ℕ) → Path es a r p → (m o : NodeRecord) → slice_get (nodes_of f) p ≡ Some m
    → slice_get (nodes_of f) r ≡ Some o → ¬ CopiesMemory o.value → StandsFor f m.value.id o.value.id
path_stands f values es copies a r _ (here within) m o em eo other =
    let (b, has) = stands_at f r m em in
    let same : m ≡ o = same_Some m o (sym em ∙ eo) in
    subst (λ (x : NodeRecord). StandsFor f m.value.id x.value.id) same
    (itself b m.value has (λ h. other (subst (λ (x : NodeRecord). CopiesMemory x.value) same h)))
path_stands f values es copies a r _ (onward p q path apart edge within) m o em eo other =
    let (x, ex, (is, (n, first, names))) = ((copies.edge p q).0 edge).1 in
    let same : x ≡ m = same_Some x m (sym ex ∙ em) in
    let (y, ey) = at_some (nodes_of f) p (omega (arith, copies.size, path_within es a r p path)) in
    let (b, has) = stands_at f q x ex in
    let (s, z, named, ez, number) = node_of f n (values.argument b x.value 0 n has first) in
    let place : s ≡ p = same_Some s p (sym named ∙ names) in
    let node : z ≡ y = same_Some z y (sym ez ∙ (ap (λ k. slice_get (nodes_of f) k) place ∙ ey)) in
    let id : y.value.id ≡ n = sym (ap (λ (w : NodeRecord). w.value.id) node) ∙ number in
    let behind : StandsFor f n o.value.id = subst (λ (k : ℕ). StandsFor f k o.value.id) id (path_stands f values es copies a r p path y o ey eo other) in
    subst (λ (w : NodeRecord). StandsFor f w.value.id o.value.id) same (copied b x.value n o.value.id has is first behind)

-- and the other way round
stands_path : (f : FuncRecord) → AreValues f → (es : List (List ℕ)) → AreCopies f (length (nodes_of f)) es → (n k : ℕ) → StandsFor f n k → (p r : ℕ) (m o : NodeRecord)
    → slice_get (nodes_of f) p ≡ Some m → slice_get (nodes_of f) r ≡ Some o → m.value.id ≡ n → o.value.id ≡ k → Path es (length es) r p × ¬ CopiesMemory o.value
stands_path f values es copies _ _ (itself b v has other) p r m o em eo im io =
    let (q, x, ex, is) = place_for f b v has in
    let (s, same) = one_node f values p q m x em ex (im ∙ sym (ap (λ (u : ValueRecord). u.id) is)) in
    let (t, also) = one_node f values r q o x eo ex (io ∙ sym (ap (λ (u : ValueRecord). u.id) is)) in
    let place : r ≡ p = t ∙ sym s in
    let within : r < length es = omega (arith, copies.size, slice_get_within (nodes_of f) r o eo) in (
      subst (λ (j : ℕ). Path es (length es) r j) place (here within),
      λ h. other (subst CopiesMemory is (subst (λ (w : NodeRecord). CopiesMemory w.value) also h)),
    )
stands_path f values es copies _ _ (copied b v n' k has copies' first rest) p r m o em eo im io =
    let (q, x, ex, is) = place_for f b v has in
    let (s, same) = one_node f values p q m x em ex (im ∙ sym (ap (λ (u : ValueRecord). u.id) is)) in
    let (j, z, named, ez, number) = node_of f n' (values.argument b v 0 n' has first) in
    let (path, free) = stands_path f values es copies n' _ rest j r z o ez eo number io in
    let within : p < length es = omega (arith, copies.size, slice_get_within (nodes_of f) p m em) in
    let value : m.value ≡ v = ap (λ (w : NodeRecord). w.value) same ∙ is in
    let edge : IsEdge es j p =
    (copies.edge j p).1 (slice_get_within (nodes_of f) p m em, (m, em, (subst CopiesMemory (sym value) copies', (n', subst (λ (u : ValueRecord). slice_get u.args 0 ≡ Some n') (sym value) first, named)))) in
    (onward j p path (λ a. absurd (omega (arith, path_within es (length es) r j path))) edge within, free)

-- what is no copy has no edge to it, and a copy has one
no_edge : (f : FuncRecord) (es : List (List ℕ)) → AreCopies f (length (nodes_of f)) es → (p r : ℕ) (o : NodeRecord) → slice_get (nodes_of f) r ≡ Some o → ¬ CopiesMemory o.value → IsEdge es p r → ⊥
no_edge f es copies p r o e other edge =
    let (x, ex, (is, rest)) = ((copies.edge p r).0 edge).1 in
    other (subst (λ (w : NodeRecord). CopiesMemory w.value) (same_Some x o (sym ex ∙ e)) is)

one_edge : (f : FuncRecord) (es : List (List ℕ)) → AreCopies f (length (nodes_of f)) es → (p q r : ℕ) → IsEdge es p r → IsEdge es q r → p ≡ q
one_edge f es copies p q r c d =
    let (x, ex, (is, (n, first, names))) = ((copies.edge p r).0 c).1 in
    let (y, ey, (is', (k, first', names'))) = ((copies.edge q r).0 d).1 in
    let same : x ≡ y = same_Some x y (sym ex ∙ ey) in
    let number : n ≡ k = same_Some n k (sym first ∙ (ap (λ (w : NodeRecord). slice_get w.value.args 0) same ∙ first')) in
    same_Some p q (sym names ∙ (ap (λ j. sole (value_ids f) j) number ∙ names'))

-- the last step of a path
last_step : (es : List (List ℕ)) (a s p : ℕ) → Path es a s p → (p ≡ s) ⊎ ((q : ℕ) × Path es a s q × IsEdge es q p)
last_step es a s _ (here within) = inl refl
last_step es a s _ (onward q p path apart edge within) = inr (q, path, edge)

-- so no two values are stood for
one_root : (f : FuncRecord) (es : List (List ℕ)) → AreCopies f (length (nodes_of f)) es → (a r s p : ℕ) (o u : NodeRecord) → slice_get (nodes_of f) r ≡ Some o → slice_get (nodes_of f) s ≡ Some u
    → ¬ CopiesMemory o.value → ¬ CopiesMemory u.value → Path es a r p → Path es a s p → r ≡ s
one_root f es copies a r s _ o u eo eu other nu (here within) path' = ⊎_elim
    (λ (same : r ≡ s). same)
    (λ (q, path, edge). absurd (no_edge f es copies q r o eo other edge))
    (last_step es a s r path')
one_root f es copies a r s _ o u eo eu other nu (onward q p path apart edge within) path' = ⊎_elim
    (λ (same : p ≡ s). absurd (no_edge f es copies q s u eu nu (subst (λ (j : ℕ). IsEdge es q j) same edge)))
    (λ (t, front, edge').
    one_root f es copies a r s q o u eo eu other nu path (subst (λ (j : ℕ). Path es a s j) (sym (one_edge f es copies q t p edge edge')) front))
    (last_step es a s p path')

-- the starts of the search
abbrev pub IsRoot : FuncRecord → ℕ → Type 0
IsRoot f p = (m : NodeRecord) × (slice_get (nodes_of f) p ≡ Some m) × ¬ CopiesMemory m.value

pub roots_are : (f : FuncRecord) → AreValues f → (es : List (List ℕ)) → AreCopies f (length (nodes_of f)) es → (ls : List (Option ℕ)) (xs : List ℕ) (i : ℕ) → Sown es (length es) (IsRoot f) i ls xs → length (nodes_of f) ≤ i
    → AreRoots f ls
roots_are f values es copies ls xs i s over = record {
  within = λ p r e. let (b, (o, eo, other), path) = s.from p r e in slice_get_within (nodes_of f) r o eo;
  each = λ p r m o em eo. (to p r m o em eo, from p r m o em eo);
}
  where
    to : (p r : ℕ) (m o : NodeRecord) → slice_get (nodes_of f) p ≡ Some m → slice_get (nodes_of f) r ≡ Some o → get_or ls p None ≡ Some r → StandsFor f m.value.id o.value.id
    to p r m o em eo e =
        let (b, (u, eu, free), path) = s.from p r e in
        path_stands f values es copies (length es) r p path m o em eo (subst (λ (w : NodeRecord). ¬ CopiesMemory w.value) (same_Some u o (sym eu ∙ eo)) free)

    from : (p r : ℕ) (m o : NodeRecord) → slice_get (nodes_of f) p ≡ Some m → slice_get (nodes_of f) r ≡ Some o → StandsFor f m.value.id o.value.id → get_or ls p None ≡ Some r
    from p r m o em eo h =
        let (path, free) = stands_path f values es copies m.value.id o.value.id h p r m o em eo refl refl in
        let (l, e) = s.found r p (omega (arith, slice_get_within (nodes_of f) r o eo)) (o, eo, free) path in
        let (b, (u, eu, nu), also) = s.from p l e in
        e ∙ ap Some (sym (one_root f es copies (length es) r l p o u eo eu free nu path also))

-- what a function of which each number names one thing has
pub values_named : (s : Setting) (f : FuncRecord) → Keeps s f Missing → AreValues f
values_named s f named = record {
  own = λ b v (hb, hv). ((named b hb).value v hv).own;
  argument = λ b v k n (hb, hv) e. subst (λ (x : ℕ). IsValueNumber f x) (get_or_from_slice_get v.args k n n e) (((named b hb).value v hv).args k n (slice_get_within v.args k n e));
}

-- no value below the first copies
pub copies_first : (f : FuncRecord) (es : List (List ℕ)) (n : ℕ) → es ≡ replicate n [] → n ≡ length (nodes_of f) → AreCopies f 0 es
copies_first f es n none same = record {
  size = ap length none ∙ (length-replicate n [] ∙ same);
  edge = λ p q. ((λ m. absurd (none_in q (subst (λ (us : List ℕ). Contains us q) (ap (λ us. get_or us p []) none ∙ nothing p) m))), (λ (l, c). absurd (omega arith)));
}
  where
    nothing : (p : ℕ) → get_or {A = List ℕ} (replicate n []) p [] ≡ []
    nothing p = ⊎_elim (λ (b : p < n). get_or-replicate n p [] [] b) (λ a. get_or_past (replicate n []) p [] (rw length-replicate a)) (cases_lt p n)

-- one more value is looked at
pub copies_more : (f : FuncRecord) (i : ℕ) (es : List (List ℕ)) (m : NodeRecord) (o : Option ℕ) → AreCopies f i es → slice_get (nodes_of f) i ≡ Some m
    → MatchOption o ((p : ℕ) → ¬ Copies f m.value p) (λ q. (p : ℕ) → Copies f m.value p ↔ (p ≡ q)) → AreCopies f (i + 1) (with_edge es o i)
copies_more f i es m None c at none = record {
  size = c.size;
  edge = λ p q. ((λ e. let (l, h) = (c.edge p q).0 e in (omega arith, h)), (λ (l, h). (c.edge p q).1 (below p q l h, h)));
}
  where
    below : (p q : ℕ) → q < i + 1 → IsCopyAt f p q → q < i
    below p q l (x, ex, h) = ⊎_elim
        (λ (b : q < i). b)
        (λ (a : i ≤ q).
        let same : q ≡ i = omega arith in
        let node : x ≡ m = same_Some x m (sym ex ∙ (ap (λ k. slice_get (nodes_of f) k) same ∙ at)) in
        absurd (none p (subst (λ (w : NodeRecord). Copies f w.value p) node h)))
        (cases_lt q i)
copies_more f i es m (Some x) c at one = record {
  size = length-set es x (get_or es x [] ++ i ∷ []) ∙ c.size;
  edge = λ p q. ⊎_elim (λ same. (to_same p q same, from_same p q same)) (λ apart. (to_other p q apart, from_other p q apart)) (cases_eq p x);
}
  where
    source : Copies f m.value x
    source = (one x).1 refl

    within : x < length es
    within = let (is, (n, first, names)) = source in omega (arith, c.size, (sole_is (value_ids f) n x names).1.within, length_values f)

    node : (q : ℕ) (y : NodeRecord) → slice_get (nodes_of f) q ≡ Some y → q ≡ i → y ≡ m
    node q y ey same = same_Some y m (sym ey ∙ (ap (λ k. slice_get (nodes_of f) k) same ∙ at))

    at_same : (p : ℕ) → p ≡ x → get_or (set es x (get_or es x [] ++ i ∷ [])) p [] ≡ get_or es x [] ++ i ∷ []
    at_same p same = ap (λ k. get_or (set es x (get_or es x [] ++ i ∷ [])) k []) same ∙ get_or-set_same es x (get_or es x [] ++ i ∷ []) [] within

    to_same : (p q : ℕ) → p ≡ x → IsEdge (set es x (get_or es x [] ++ i ∷ [])) p q → q < i + 1 × IsCopyAt f p q
    to_same p q same e = ⊎_elim
        (λ old. let (l, h) = (c.edge x q).0 old in (omega arith, subst (λ (k : ℕ). IsCopyAt f k q) (sym same) h))
        (λ (new : i ≡ q). (omega arith, (m, subst (λ (k : ℕ). slice_get (nodes_of f) k ≡ Some m) new at, subst (λ (k : ℕ). Copies f m.value k) (sym same) source)))
        (Contains-push_cases (get_or es x []) i q (subst (λ (us : List ℕ). Contains us q) (at_same p same) e))

    from_same : (p q : ℕ) → p ≡ x → q < i + 1 × IsCopyAt f p q → IsEdge (set es x (get_or es x [] ++ i ∷ [])) p q
    from_same p q same (l, h) =
        subst (λ (us : List ℕ). Contains us q) (sym (at_same p same)) (⊎_elim
        (λ (b : q < i). Contains-append_left (get_or es x []) (i ∷ []) q ((c.edge x q).1 (b, subst (λ (k : ℕ). IsCopyAt f k q) same h)))
        (λ (a : i ≤ q). let is : i ≡ q = omega arith in subst (λ (k : ℕ). Contains (get_or es x [] ++ i ∷ []) k) is (Contains-push (get_or es x []) i))
        (cases_lt q i))

    to_other : (p q : ℕ) → (p ≡ x → ⊥) → IsEdge (set es x (get_or es x [] ++ i ∷ [])) p q → q < i + 1 × IsCopyAt f p q
    to_other p q apart e =
        let (l, h) = (c.edge p q).0 (subst (λ (us : List ℕ). Contains us q) (get_or-set_other es x p (get_or es x [] ++ i ∷ []) [] apart) e) in (omega arith, h)

    from_other : (p q : ℕ) → (p ≡ x → ⊥) → q < i + 1 × IsCopyAt f p q → IsEdge (set es x (get_or es x [] ++ i ∷ [])) p q
    from_other p q apart (l, (y, ey, h)) =
        subst (λ (us : List ℕ). Contains us q) (sym (get_or-set_other es x p (get_or es x [] ++ i ∷ []) [] apart)) (⊎_elim
        (λ (b : q < i). (c.edge p q).1 (b, (y, ey, h)))
        (λ (a : i ≤ q). let is : q ≡ i = omega arith in absurd (apart ((one p).0 (subst (λ (w : NodeRecord). Copies f w.value p) (node q y ey is) h))))
        (cases_lt q i))
