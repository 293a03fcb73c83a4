-- The checks and loads of a block are the same after a rule was applied, and none comes later than it did: so their first fault
-- is the same, unless it was an access outside the window.
use Rattle.std.proofs.Common.{◌≡◌, ℕ, zero, suc, ◌≤◌, refl, ap, sym, ◌∙◌, subst, arith, ◌⊎◌, inl, inr, List, [], ◌∷◌, ◌++◌, length, Option, Some, None, Bool, true, false, cond, ◌==◌, ◌&&◌, ◌||◌, not, eq-eqb}
use Rattle.std.specs.Prelude.{slice_get, slice_index, filter, flat_map}
use Rattle.std.specs.List.{list_any, AllZip}
use Rattle.std.proofs.lemmas.Bool.{eqb-true}
use Rattle.bk_ops.specs.declared.types.Target.{Target}
use Rattle.bk_func.specs.Records.{ValueRecord, BlockRecord, FuncRecord}
use Rattle.bk_func.specs.Numbers.{Origin, phi, argument, argument_word, result, address, loaded, checked, same, computed, origin_of, state_of, room, value_in}
use Rattle.bk_func.specs.Effects.{is_phi, is_check, is_load, is_at, needs, loads_at, checks_at, order, after_needs}
use Rattle.bk_func.specs.Meaning.{fault_at, fault_by, first_fault}
use Rattle.bk_func.proofs.Faults.{In, IsClosed, Mild, Fewer, order_mild, in-filter}
use Rattle.bk_refine_laws.specs.Visits.{after, Edit, edited, TakesLess}
use Rattle.bk_func.proofs.Needs.{found_in, in_any, any_in, BlockRanked, needs_more, needs_deep, needs_closed}

-- ---- needs, one argument at a time
either : (a b : Bool) → (a || b) ≡ true → (a ≡ true) ⊎ (b ≡ true)
either true b e = inl refl
either false b e = inr e

or_right : (a b : Bool) → b ≡ true → (a || b) ≡ true
or_right true b e = refl
or_right false b e = e

or_left : (a b : Bool) → a ≡ true → (a || b) ≡ true
or_left true b e = refl
or_left false b e = absurd cc

both : (a b : Bool) → (a && b) ≡ true → (a ≡ true) × (b ≡ true)
both true b e = (refl, e)
both false b e = absurd cc

-- the argument by which a value needs a number: the number itself, or a value of the block that needs it
record By (k : ℕ) (b : BlockRecord) (v : ValueRecord) (n : ℕ) : Type 0 where
  phi : is_phi (origin_of v.op.family) ≡ false
  arg : ℕ
  taken : In arg v.args
  way : (arg ≡ n) ⊎ ((u : ValueRecord) × (value_in b.values arg ≡ Some u) × (needs k b (Some u) n ≡ true))

needs_by : (k : ℕ) (b : BlockRecord) (v : ValueRecord) (n : ℕ) → needs (suc k) b (Some v) n ≡ true → By k b v n
unfolding needs
needs_by k b v n e =
    let q = both (not (is_phi (origin_of v.op.family))) (list_any (λ a. a == n || needs k b (value_in b.values a) n) v.args) e in
    let s = any_in (λ a. a == n || needs k b (value_in b.values a) n) v.args q.1 in
    record { phi = no_phi (is_phi (origin_of v.op.family)) q.0; arg = s.0; taken = s.1; way = way s.0 (either (s.0 == n) (needs k b (value_in b.values s.0) n) s.2) }
  where
    no_phi : (t : Bool) → not t ≡ true → t ≡ false
    no_phi true h = sym h
    no_phi false h = refl

    nothing : (k : ℕ) → needs k b None n ≡ true → ⊥
    nothing zero h = cc
    nothing (suc k) h = cc

    inner : (a : ℕ) (o : Option ValueRecord) → value_in b.values a ≡ o → needs k b o n ≡ true → (a ≡ n) ⊎ ((u : ValueRecord) × (value_in b.values a ≡ Some u) × (needs k b (Some u) n ≡ true))
    inner a None h w = absurd (nothing k w)
    inner a (Some u) h w = inr (u, h, w)

    way : (a : ℕ) → ((a == n) ≡ true) ⊎ (needs k b (value_in b.values a) n ≡ true) → (a ≡ n) ⊎ ((u : ValueRecord) × (value_in b.values a ≡ Some u) × (needs k b (Some u) n ≡ true))
    way a (inl h) = inl (eqb-true a n h)
    way a (inr h) = inner a (value_in b.values a) refl h

by_argument : (k : ℕ) (b : BlockRecord) (v : ValueRecord) (n a : ℕ) → is_phi (origin_of v.op.family) ≡ false → In a v.args → a ≡ n → needs (suc k) b (Some v) n ≡ true
unfolding needs
by_argument k b v n a h i e =
    rw h (in_any (λ a. a == n || needs k b (value_in b.values a) n) v.args a i (or_left (a == n) (needs k b (value_in b.values a) n) (eq-eqb a n e)))

by_need : (k : ℕ) (b : BlockRecord) (v u : ValueRecord) (n a : ℕ) → is_phi (origin_of v.op.family) ≡ false → In a v.args → value_in b.values a ≡ Some u → needs k b (Some u) n ≡ true →
    needs (suc k) b (Some v) n ≡ true
unfolding needs
by_need k b v u n a h i e w =
    rw h (in_any (λ a. a == n || needs k b (value_in b.values a) n) v.args a i (or_right (a == n) (needs k b (value_in b.values a) n) (rw e w)))

no_room : (b : BlockRecord) (v : ValueRecord) (n : ℕ) → needs zero b (Some v) n ≡ true → ⊥
unfolding needs
no_room b v n e = cc

-- ---- what stands in the block after the edit
edit_in : (xs made : List ValueRecord) (k : ℕ) (root u : ValueRecord) → In u (after xs made k root) → In u xs ⊎ ((u ≡ root) ⊎ In u made)
edit_in [] [] k root u i = elim i [ ]
edit_in [] (w ∷ ws) zero root u (inl e) = inr (inl (sym e))
edit_in [] (w ∷ ws) zero root u (inr i) = inr (inr (inr i))
edit_in [] (w ∷ ws) (suc k) root u (inl e) = inr (inr (inl e))
edit_in [] (w ∷ ws) (suc k) root u (inr i) = go (edit_in [] ws k root u i)
  where
    go : In u [] ⊎ ((u ≡ root) ⊎ In u ws) → In u [] ⊎ ((u ≡ root) ⊎ In u (w ∷ ws))
    go (inl j) = elim j [ ]
    go (inr (inl e)) = inr (inl e)
    go (inr (inr j)) = inr (inr (inr j))
edit_in (x ∷ xs) made zero root u (inl e) = inr (inl (sym e))
edit_in (x ∷ xs) made zero root u (inr i) = go xs i
  where
    go : (ys : List ValueRecord) → In u (ys ++ made) → In u (x ∷ ys) ⊎ ((u ≡ root) ⊎ In u made)
    go [] j = inr (inr j)
    go (y ∷ ys) (inl e) = inl (inr (inl e))
    go (y ∷ ys) (inr j) = more (go ys j)
      where
        more : In u (x ∷ ys) ⊎ ((u ≡ root) ⊎ In u made) → In u (x ∷ y ∷ ys) ⊎ ((u ≡ root) ⊎ In u made)
        more (inl (inl e)) = inl (inl e)
        more (inl (inr l)) = inl (inr (inr l))
        more (inr l) = inr l
edit_in (x ∷ xs) made (suc k) root u (inl e) = inl (inl e)
edit_in (x ∷ xs) made (suc k) root u (inr i) = go (edit_in xs made k root u i)
  where
    go : In u xs ⊎ ((u ≡ root) ⊎ In u made) → In u (x ∷ xs) ⊎ ((u ≡ root) ⊎ In u made)
    go (inl j) = inl (inr j)
    go (inr j) = inr j

-- a value of the new block needs no more than it did, and one that was made no more than the old value
abbrev Less : FuncRecord → BlockRecord → ValueRecord → ValueRecord → List ValueRecord → ValueRecord → ℕ → Type 0
Less f b v root made w n = (In w b.values → needs (room f) b (Some w) n ≡ true) × ((w ≡ root) ⊎ In w made → needs (room f) b (Some v) n ≡ true)

-- what the proof knows of values that need the number with less room
abbrev Known : FuncRecord → BlockRecord → ℕ → ValueRecord → ValueRecord → List ValueRecord → ℕ → ℕ → Type 0
Known f b k v root made j n = (u : ValueRecord) → needs j (edited b k root made) (Some u) n ≡ true → Less f b v root made u n

-- a value of the old block needs by one of its arguments what that needs
deep : (f : FuncRecord) (b : BlockRecord) (rank : ℕ → ℕ) → BlockRanked f b rank → (w u : ValueRecord) (x n : ℕ) → In w b.values → is_phi (origin_of w.op.family) ≡ false → In x w.args → In u b.values → u.id ≡ x →
    needs (room f) b (Some u) n ≡ true → needs (room f) b (Some w) n ≡ true
deep f b rank ranked w u x n i p h iu q y =
    needs_deep f b rank ranked (suc (room f)) (room f) w n i (ranked.few w i)
    (by_need (room f) b w u n x p h (ap (value_in b.values) (sym q) ∙ ranked.ids u iu) y)

old_less : (f : FuncRecord) (b : BlockRecord) (k : ℕ) (v root : ValueRecord) (made : List ValueRecord) (limit : ℕ) (rank : ℕ → ℕ) → BlockRanked f b rank → TakesLess f b v root made limit →
    (j : ℕ) (w : ValueRecord) (n : ℕ) → Known f b k v root made j n → By j (edited b k root made) w n → In w b.values → needs (room f) b (Some w) n ≡ true
old_less f b k v root made limit rank ranked t j w n known s i = go s.way
  where
    inner : (u : ValueRecord) → u.id ≡ s.arg → needs j (edited b k root made) (Some u) n ≡ true → In u b.values ⊎ ((u ≡ root) ⊎ In u made) → needs (room f) b (Some w) n ≡ true
    inner u q y (inl l) = deep f b rank ranked w u s.arg n i s.phi s.taken l q ((known u y).0 l)
    inner u q y (inr (inl l)) =
        deep f b rank ranked w v s.arg n i s.phi s.taken t.here (sym t.same ∙ sym (ap (λ (r : ValueRecord). r.id) l) ∙ q) ((known u y).1 (inl l))
    inner u q y (inr (inr l)) = absurd (let x = t.new u l in let r = (t.old w i).1 s.arg s.taken in omega (arith, x, r, q))

    go : (s.arg ≡ n) ⊎ ((u : ValueRecord) × (value_in (edited b k root made).values s.arg ≡ Some u) × (needs j (edited b k root made) (Some u) n ≡ true)) → needs (room f) b (Some w) n ≡ true
    go (inl q) = needs_deep f b rank ranked (suc (room f)) (room f) w n i (ranked.few w i) (by_argument (room f) b w n s.arg s.phi s.taken q)
    go (inr (u, d, y)) = (let r = found_in (edited b k root made).values s.arg u d in inner u r.1 y (edit_in b.values made k root u r.0))

new_less : (f : FuncRecord) (b : BlockRecord) (k : ℕ) (v root : ValueRecord) (made : List ValueRecord) (limit : ℕ) (rank : ℕ → ℕ) → BlockRanked f b rank → TakesLess f b v root made limit →
    (j : ℕ) (w z : ValueRecord) → In z b.values → Known f b k v root made j z.id → By j (edited b k root made) w z.id → (w ≡ root) ⊎ In w made → needs (room f) b (Some v) z.id ≡ true
new_less f b k v root made limit rank ranked t j w z iz known s m = go s.way (t.takes w m s.arg s.taken)
  where
    inner : (u : ValueRecord) → u.id ≡ s.arg → needs j (edited b k root made) (Some u) z.id ≡ true → In u b.values ⊎ ((u ≡ root) ⊎ In u made) →
        (limit ≤ s.arg) ⊎ ((u : ValueRecord) → In u b.values → u.id ≡ s.arg → needs (room f) b (Some v) u.id ≡ true) → needs (room f) b (Some v) z.id ≡ true
    inner u q y (inr l) h = (known u y).1 l
    inner u q y (inl l) (inl h) = absurd (let x = (t.old u l).0 in omega (arith, x, h, q))
    inner u q y (inl l) (inr h) = needs_more f b rank ranked (room f) (room f) (room f) v u z.id t.here (ranked.few v t.here) l (h u l q) ((known u y).0 l)

    go : (s.arg ≡ z.id) ⊎ ((u : ValueRecord) × (value_in (edited b k root made).values s.arg ≡ Some u) × (needs j (edited b k root made) (Some u) z.id ≡ true)) →
        (limit ≤ s.arg) ⊎ ((u : ValueRecord) → In u b.values → u.id ≡ s.arg → needs (room f) b (Some v) u.id ≡ true) → needs (room f) b (Some v) z.id ≡ true
    go (inl q) (inl h) = absurd (let x = (t.old z iz).0 in omega (arith, x, h, q))
    go (inl q) (inr h) = h z iz (sym q)
    go (inr (u, d, y)) h = (let r = found_in (edited b k root made).values s.arg u d in inner u r.1 y (edit_in b.values made k root u r.0) h)

needs_less : (f : FuncRecord) (b : BlockRecord) (k : ℕ) (v root : ValueRecord) (made : List ValueRecord) (limit : ℕ) (rank : ℕ → ℕ) → BlockRanked f b rank → TakesLess f b v root made limit →
    (j : ℕ) (w z : ValueRecord) → In z b.values → needs j (edited b k root made) (Some w) z.id ≡ true → Less f b v root made w z.id
needs_less f b k v root made limit rank ranked t zero w z iz e = absurd (no_room (edited b k root made) w z.id e)
needs_less f b k v root made limit rank ranked t (suc j) w z iz e =
    let s : By j (edited b k root made) w z.id = needs_by j (edited b k root made) w z.id e in
    let known : Known f b k v root made j z.id = λ u y. needs_less f b k v root made limit rank ranked t j u z iz y in
    (λ i. old_less f b k v root made limit rank ranked t j w z.id known s i, λ m. new_less f b k v root made limit rank ranked t j w z iz known s m)

-- ---- the lists of checks and loads
filter_more : (t u : ValueRecord → Bool) (xs made : List ValueRecord) → ((x : ValueRecord) → In x xs → t x ≡ u x) → ((w : ValueRecord) → In w made → u w ≡ false) → filter t xs ≡ filter u (xs ++ made)
filter_more t u [] [] h n = refl
filter_more t u [] (w ∷ ws) h n = rw (n w (inl refl)) (filter_more t u [] ws h (λ x i. n x (inr i)))
filter_more t u (x ∷ xs) made h n =
    ap (λ c. cond c (x ∷ filter t xs) (filter t xs)) (h x (inl refl)) ∙ ap (λ zs. cond (u x) (x ∷ zs) zs) (filter_more t u xs made (λ y i. h y (inr i)) n)

pub filter_edit : (t u : ValueRecord → Bool) (xs made : List ValueRecord) (k : ℕ) (v root : ValueRecord) → slice_get xs k ≡ Some v → t v ≡ false → u root ≡ false →
    ((x : ValueRecord) → In x xs → t x ≡ u x) → ((w : ValueRecord) → In w made → u w ≡ false) → filter t xs ≡ filter u (after xs made k root)
filter_edit t u [] made k v root e a b h n = absurd cc
filter_edit t u (x ∷ xs) made zero v root e a b h n =
    let d : t x ≡ false = ap t (let z : x ≡ v = cc in z) ∙ a in
    ap (λ c. cond c (x ∷ filter t xs) (filter t xs)) d ∙ (filter_more t u xs made (λ y i. h y (inr i)) n ∙ sym (ap (λ c. cond c (root ∷ filter u (xs ++ made)) (filter u (xs ++ made))) b))
filter_edit t u (x ∷ xs) made (suc k) v root e a b h n =
    ap (λ c. cond c (x ∷ filter t xs) (filter t xs)) (h x (inl refl))
    ∙ ap (λ zs. cond (u x) (x ∷ zs) zs) (filter_edit t u xs made k v root e a b (λ y i. h y (inr i)) n)

pub and_false : (a b : Bool) → a ≡ false → (a && b) ≡ false
and_false a b e = ap (λ c. c && b) e

same_checks : (f g : FuncRecord) (b : BlockRecord) (k : ℕ) (v root : ValueRecord) (made : List ValueRecord) → Edit b k v root made → ((u : ValueRecord) → In u b.values → state_of f u ≡ state_of g u) → (s : ℕ) →
    checks_at f b s ≡ checks_at g (edited b k root made) s
same_checks f g b k v root made e states s =
    filter_edit (λ v. is_check (origin_of v.op.family) && is_at (state_of f v) s) (λ v. is_check (origin_of v.op.family) && is_at (state_of g v) s) b.values made k v root e.stands
    (and_false (is_check (origin_of v.op.family)) (is_at (state_of f v) s) e.old.check) (and_false (is_check (origin_of root.op.family)) (is_at (state_of g root) s) e.new.check)
    (λ x i. ap (λ o. is_check (origin_of x.op.family) && is_at o s) (states x i)) (λ w i. and_false (is_check (origin_of w.op.family)) (is_at (state_of g w) s) (e.more w i).check)

same_loads : (f g : FuncRecord) (b : BlockRecord) (k : ℕ) (v root : ValueRecord) (made : List ValueRecord) → Edit b k v root made → ((u : ValueRecord) → In u b.values → state_of f u ≡ state_of g u) → (s : ℕ) →
    loads_at f b s ≡ loads_at g (edited b k root made) s
same_loads f g b k v root made e states s =
    filter_edit (λ v. is_load (origin_of v.op.family) && is_at (state_of f v) s) (λ v. is_load (origin_of v.op.family) && is_at (state_of g v) s) b.values made k v root e.stands
    (and_false (is_load (origin_of v.op.family)) (is_at (state_of f v) s) e.old.load) (and_false (is_load (origin_of root.op.family)) (is_at (state_of g root) s) e.new.load)
    (λ x i. ap (λ o. is_load (origin_of x.op.family) && is_at o s) (states x i)) (λ w i. and_false (is_load (origin_of w.op.family)) (is_at (state_of g w) s) (e.more w i).load)

-- ---- faults
fault_same : (o : Origin) (t : Target) (m n : ℕ → ℕ) (d : List ℕ) (v : ValueRecord) → m (slice_index v.args 0) ≡ n (slice_index v.args 0) → fault_by o t m d v ≡ fault_by o t n d v
fault_same phi t m n d v e = refl
fault_same argument t m n d v e = refl
fault_same argument_word t m n d v e = refl
fault_same result t m n d v e = refl
fault_same address t m n d v e = refl
fault_same loaded t m n d v e = rw e refl
fault_same checked t m n d v e = rw e refl
fault_same same t m n d v e = refl
fault_same computed t m n d v e = refl

is_loaded : (o : Origin) → is_load o ≡ true → o ≡ loaded
is_loaded loaded e = refl
is_loaded phi e = absurd cc
is_loaded argument e = absurd cc
is_loaded argument_word e = absurd cc
is_loaded result e = absurd cc
is_loaded address e = absurd cc
is_loaded checked e = absurd cc
is_loaded same e = absurd cc
is_loaded computed e = absurd cc

-- in the new block the first fault of each state is the same, unless the old one was wild
pub faults_kept : (f g : FuncRecord) (b : BlockRecord) (k : ℕ) (v root : ValueRecord) (made : List ValueRecord) (limit : ℕ) (rank rank' : ℕ → ℕ) → Edit b k v root made → TakesLess f b v root made limit →
    BlockRanked f b rank → BlockRanked g (edited b k root made) rank' → ((u : ValueRecord) → In u b.values → state_of f u ≡ state_of g u) → ((u : ValueRecord) → In u b.values → is_check (origin_of u.op.family) ≡ true ⊎ is_load (origin_of u.op.family) ≡ true → In u (edited b k root made).values) →
    (t : Target) (m n : ℕ → ℕ) (window : List ℕ) → ((u : ValueRecord) → In u b.values → m (slice_index u.args 0) ≡ n (slice_index u.args 0)) → (s : ℕ) →
    Mild (first_fault t m window (order f b s)) (first_fault t n window (order g (edited b k root made) s))
faults_kept f g b k v root made limit rank rank' e less ranked ranked' states stay t m n window args s =
    subst (λ l. Mild (first_fault t m window (order f b s)) (first_fault t n window (flat_map (after_needs (length l) g c l) (checks_at g c s ++ l)))) (same_loads f g b k v root made e states s)
    (subst (λ q. Mild (first_fault t m window (order f b s)) (first_fault t n window (flat_map (after_needs (length loads) g c loads) (q ++ loads)))) (same_checks f g b k v root made e states s)
    (order_mild V t m n window f g b c checks checks loads loads (each_one checks checks_in) fewer))
  where
    c : BlockRecord
    c = edited b k root made

    checks : List ValueRecord
    checks = checks_at f b s

    loads : List ValueRecord
    loads = loads_at f b s

    V : ValueRecord → ValueRecord → Type 0
    V u w = (u ≡ w) × In u b.values × In u c.values

    checks_in : (x : ValueRecord) → In x checks → In x b.values × In x c.values
    checks_in x i =
        let q = in-filter (λ v. is_check (origin_of v.op.family) && is_at (state_of f v) s) x b.values i in
        (q.0, stay x q.0 (inl (both (is_check (origin_of x.op.family)) (is_at (state_of f x) s) q.1).0))

    loads_in : (x : ValueRecord) → In x loads → In x b.values × In x c.values
    loads_in x i =
        let q = in-filter (λ v. is_load (origin_of v.op.family) && is_at (state_of f v) s) x b.values i in
        (q.0, stay x q.0 (inr (both (is_load (origin_of x.op.family)) (is_at (state_of f x) s) q.1).0))

    each_one : (xs : List ValueRecord) → ((x : ValueRecord) → In x xs → In x b.values × In x c.values) → AllZip V xs xs
    each_one [] h = tt
    each_one (x ∷ xs) h = (let q = h x (inl refl) in ((refl, q.0, q.1), each_one xs (λ y i. h y (inr i))))

    fault : (u w : ValueRecord) → V u w → fault_at t m window u ≡ fault_at t n window w
    fault u w (q, i, j) = fault_same (origin_of u.op.family) t m n window u (args u i) ∙ ap (fault_at t n window) q

    needed : (u w x y : ValueRecord) → V u w → V x y → needs (room g) c (Some w) y.id ≡ true → needs (room f) b (Some u) x.id ≡ true
    needed u w x y (q, i, j) (r, k', l) h =
        let d : needs (room g) c (Some u) x.id ≡ true =
        subst (λ z. needs (room g) c (Some z) x.id ≡ true) (sym q) (subst (λ (z : ValueRecord). needs (room g) c (Some w) z.id ≡ true) (sym r) h) in
        (needs_less f b k v root made limit rank ranked less (room g) u x k' d).0 i

    closed : (u w : ValueRecord) → V u w → IsClosed g c loads w
    closed u w (q, i, j) =
        let P : ValueRecord → Type 0 = λ z. IsClosed g c loads z in
        subst P q (subst (λ l. IsClosed g c l u) (sym (same_loads f g b k v root made e states s)) (needs_closed g c rank' ranked' s u j))

    fewer : Fewer V t m n window f g b c loads loads
    fewer = record {
      zipped = each_one loads loads_in;
      are_loads = λ x i. is_loaded (origin_of x.op.family) (both (is_load (origin_of x.op.family)) (is_at (state_of f x) s) (in-filter (λ v. is_load (origin_of v.op.family) && is_at (state_of f v) s) x b.values i).1).0;
      fault = fault;
      needed = needed;
      closed = closed;
    }

-- the same of a block that was not changed
pub faults_same : (f g : FuncRecord) (b : BlockRecord) (rank rank' : ℕ → ℕ) → BlockRanked f b rank → BlockRanked g b rank' → ((u : ValueRecord) → In u b.values → state_of f u ≡ state_of g u) →
    (t : Target) (m n : ℕ → ℕ) (window : List ℕ) → ((u : ValueRecord) → In u b.values → m (slice_index u.args 0) ≡ n (slice_index u.args 0)) → (s : ℕ) →
    Mild (first_fault t m window (order f b s)) (first_fault t n window (order g b s))
faults_same f g b rank rank' ranked ranked' states t m n window args s =
    subst (λ l. Mild (first_fault t m window (order f b s)) (first_fault t n window (flat_map (after_needs (length l) g b l) (checks_at g b s ++ l)))) loads_are
    (subst (λ q. Mild (first_fault t m window (order f b s)) (first_fault t n window (flat_map (after_needs (length loads) g b loads) (q ++ loads)))) checks_are
    (order_mild V t m n window f g b b checks checks loads loads (each_one checks checks_in) fewer))
  where
    checks : List ValueRecord
    checks = checks_at f b s

    loads : List ValueRecord
    loads = loads_at f b s

    same_list : (t u : ValueRecord → Bool) (xs : List ValueRecord) → ((x : ValueRecord) → In x xs → t x ≡ u x) → filter t xs ≡ filter u xs
    same_list t u [] h = refl
    same_list t u (x ∷ xs) h = ap (λ c. cond c (x ∷ filter t xs) (filter t xs)) (h x (inl refl)) ∙ ap (λ zs. cond (u x) (x ∷ zs) zs) (same_list t u xs (λ y i. h y (inr i)))

    checks_are : checks ≡ checks_at g b s
    checks_are = same_list (λ v. is_check (origin_of v.op.family) && is_at (state_of f v) s) (λ v. is_check (origin_of v.op.family) && is_at (state_of g v) s) b.values
        (λ x i. ap (λ o. is_check (origin_of x.op.family) && is_at o s) (states x i))

    loads_are : loads ≡ loads_at g b s
    loads_are = same_list (λ v. is_load (origin_of v.op.family) && is_at (state_of f v) s) (λ v. is_load (origin_of v.op.family) && is_at (state_of g v) s) b.values
        (λ x i. ap (λ o. is_load (origin_of x.op.family) && is_at o s) (states x i))

    V : ValueRecord → ValueRecord → Type 0
    V u w = (u ≡ w) × In u b.values

    checks_in : (x : ValueRecord) → In x checks → In x b.values
    checks_in x i = (in-filter (λ v. is_check (origin_of v.op.family) && is_at (state_of f v) s) x b.values i).0

    loads_in : (x : ValueRecord) → In x loads → In x b.values
    loads_in x i = (in-filter (λ v. is_load (origin_of v.op.family) && is_at (state_of f v) s) x b.values i).0

    each_one : (xs : List ValueRecord) → ((x : ValueRecord) → In x xs → In x b.values) → AllZip V xs xs
    each_one [] h = tt
    each_one (x ∷ xs) h = ((refl, h x (inl refl)), each_one xs (λ y i. h y (inr i)))

    needed : (u w x y : ValueRecord) → V u w → V x y → needs (room g) b (Some w) y.id ≡ true → needs (room f) b (Some u) x.id ≡ true
    needed u w x y (q, i) (r, j) h =
        needs_deep f b rank ranked (room g) (room f) u x.id i (ranked.few u i)
        (subst (λ z. needs (room g) b (Some z) x.id ≡ true) (sym q) (subst (λ (z : ValueRecord). needs (room g) b (Some w) z.id ≡ true) (sym r) h))

    closed : (u w : ValueRecord) → V u w → IsClosed g b loads w
    closed u w (q, i) =
        let P : ValueRecord → Type 0 = λ z. IsClosed g b loads z in
        subst P q (subst (λ l. IsClosed g b l u) (sym loads_are) (needs_closed g b rank' ranked' s u i))

    fewer : Fewer V t m n window f g b b loads loads
    fewer = record {
      zipped = each_one loads loads_in;
      are_loads = λ x i. is_loaded (origin_of x.op.family) (both (is_load (origin_of x.op.family)) (is_at (state_of f x) s) (in-filter (λ v. is_load (origin_of v.op.family) && is_at (state_of f v) s) x b.values i).1).0;
      fault = λ u w h. fault_same (origin_of u.op.family) t m n window u (args u h.1) ∙ ap (fault_at t n window) h.0;
      needed = needed;
      closed = closed;
    }
