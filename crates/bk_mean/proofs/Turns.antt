-- The checks and loads of a state fault as a list does that was filled from its end.
use Rattle.std.proofs.Common.{◌≡◌, ℕ, zero, suc, ◌+◌, ◌<◌, ◌≤◌, refl, ap, sym, ◌∙◌, subst, arith, ◌⊎◌, inl, inr, List, [], ◌∷◌, ◌++◌, length, Option, Some, None, Bool, true, false, cond, ◌&&◌, append_assoc}
use Rattle.std.specs.Prelude.{filter, flat_map, slice_get}
use Rattle.std.proofs.lemmas.Bool.{and_parts}
use Rattle.bk_ops.specs.declared.types.Target.{Target}
use Rattle.bk_func.specs.Records.{ValueRecord, BlockRecord, FuncRecord}
use Rattle.bk_func.specs.Numbers.{Origin, checked, origin_of, state_of, room}
use Rattle.bk_func.specs.Effects.{is_check, is_load, is_at, checks_at, loads_at, after_needs, order}
use Rattle.bk_func.specs.Meaning.{Outcome, first_fault, or_else}
use Rattle.bk_func.specs.Form.Text.{HasBlock, HasValue, IsPhi}
use Rattle.bk_func.specs.Form.Walks.{IsReached}
use Rattle.bk_func.specs.Form.Before.{Needs, Checks, ComesBefore, checks as check_before}
use Rattle.bk_func.specs.Form.Signatures.{Setting}
use Rattle.bk_func.proofs.Faults.{In, in-filter, first_fault-append, none_of}
use Rattle.bk_func.proofs.Greedy.{after, Closed, Greedy, greedy_first}
use Rattle.bk_places.proofs.Elements.{to_contains, in_left, in_right, in_either}
use Rattle.bk_mean.proofs.Named.{in_got}
use Rattle.bk_mean.proofs.Roles.{checks}
use Rattle.bk_mean.proofs.Formed.{Sound}
use Rattle.bk_mean.proofs.Ranks.{rank, rank_below_room, needs_precede, needs_onward, behind}
use Rattle.bk_mean.proofs.Needed.{need, needs_true, true_needs, needs_rank}
use Rattle.bk_mean.proofs.Stands.{named_state}
use Rattle.bk_mean.proofs.Chains.{needs_apart}
use Rattle.bk_mean.proofs.Follows.{at_some}

-- lists

pub filter-append : {A : Type 0} (t : A → Bool) (xs ys : List A) → filter t (xs ++ ys) ≡ filter t xs ++ filter t ys
filter-append t [] ys = refl
filter-append {A} t (x ∷ xs) ys = go (t x) (filter-append t xs ys)
  where
    go : (b : Bool) → filter t (xs ++ ys) ≡ filter t xs ++ filter t ys → cond b (x ∷ filter t (xs ++ ys)) (filter t (xs ++ ys)) ≡ cond b (x ∷ filter t xs) (filter t xs) ++ filter t ys
    go true e = ap (λ zs. x ∷ zs) e
    go false e = e

flat-append : {A B : Type 0} (h : A → List B) (xs ys : List A) → flat_map h (xs ++ ys) ≡ flat_map h xs ++ flat_map h ys
flat-append h [] ys = refl
flat-append h (x ∷ xs) ys = ap (λ zs. h x ++ zs) (flat-append h xs ys) ∙ sym (append_assoc (h x) (flat_map h xs) (flat_map h ys))

flat-same : {A B : Type 0} (h g : A → List B) (xs : List A) → ((x : A) → In x xs → h x ≡ g x) → flat_map h xs ≡ flat_map g xs
flat-same h g [] k = refl
flat-same h g (x ∷ xs) k = let e = k x (inl refl) in let d = flat-same h g xs (λ y i. k y (inr i)) in cc

-- fewer elements pass a stronger test
fewer : {A : Type 0} (s t : A → Bool) (xs : List A) → ((x : A) → In x xs → s x ≡ true → t x ≡ true) → length (filter s xs) ≤ length (filter t xs)
fewer s t [] h = omega arith
fewer {A} s t (x ∷ xs) h = go (s x) (t x) (h x (inl refl)) (fewer s t xs (λ y i. h y (inr i)))
  where
    go : (a b : Bool) → (a ≡ true → b ≡ true) → length (filter s xs) ≤ length (filter t xs) → length (cond a (x ∷ filter s xs) (filter s xs)) ≤ length (cond b (x ∷ filter t xs) (filter t xs))
    go true true k l = omega arith
    go true false k l = let q = k refl in absurd cc
    go false true k l = omega arith
    go false false k l = l

fewer_by_one : {A : Type 0} (s t : A → Bool) (u : A) (xs : List A) → ((x : A) → In x xs → s x ≡ true → t x ≡ true) → In u xs → s u ≡ false → t u ≡ true → length (filter s xs) < length (filter t xs)
fewer_by_one s t u [] h i p q = elim i [ ]
fewer_by_one {A} s t u (x ∷ xs) h (inl e) p q = rw (ap s e ∙ p, ap t e ∙ q) (let l = fewer s t xs (λ y i. h y (inr i)) in omega arith)
fewer_by_one {A} s t u (x ∷ xs) h (inr i) p q = go (s x) (t x) (h x (inl refl)) (fewer_by_one s t u xs (λ y j. h y (inr j)) i p q)
  where
    go : (a b : Bool) → (a ≡ true → b ≡ true) → length (filter s xs) < length (filter t xs) → length (cond a (x ∷ filter s xs) (filter s xs)) < length (cond b (x ∷ filter t xs) (filter t xs))
    go true true k l = omega arith
    go true false k l = let q = k refl in absurd cc
    go false true k l = omega arith
    go false false k l = l

none_left : {A : Type 0} (xs : List A) → length xs ≤ 0 → xs ≡ []
none_left [] l = refl
none_left (x ∷ xs) l = absurd (omega arith)

-- a list as two, and as one before and one after an element
record InFirst {A : Type 0} (xs ys pre : List A) (x : A) (post : List A) : Type 0 where
  more : List A
  front : xs ≡ pre ++ x ∷ more
  back : post ≡ more ++ ys

abbrev Split : {A : Type 0} → List A → List A → List A → A → List A → Type 0
Split {A} xs ys pre x post = InFirst xs ys pre x post ⊎ ((c : A) → In c xs → In c pre)

split : {A : Type 0} (xs ys pre : List A) (x : A) (post : List A) → xs ++ ys ≡ pre ++ x ∷ post → Split xs ys pre x post
split [] ys pre x post e = inr (λ c i. elim i [ ])
split {A} (z ∷ zs) ys [] x post e =
    let a : z ≡ x = cc in
    let b : zs ++ ys ≡ post = cc in
    inl (record { more = zs; front = ap (λ (y : A). y ∷ zs) a; back = sym b })
split {A} (z ∷ zs) ys (p ∷ pre) x post e =
    let a : z ≡ p = cc in
    let b : zs ++ ys ≡ pre ++ x ∷ post = cc in
    go a (split zs ys pre x post b)
  where
    go : z ≡ p → Split zs ys pre x post → Split (z ∷ zs) ys (p ∷ pre) x post
    go a (inl q) = inl (record { more = q.more; front = ap (λ (y : A). y ∷ zs) a ∙ ap (λ ws. p ∷ ws) q.front; back = q.back })
    go a (inr k) = inr (λ c i. elim i as (λ _. In c (p ∷ pre)) [ inl d ↦ inl (sym a ∙ d) | inr j ↦ inr (k c j) ])

-- a filter keeps the order of a list

record InTurn {A : Type 0} (xs : List A) (x y : A) : Type 0 where
  first : ℕ
  second : ℕ
  less : first < second
  has_first : slice_get xs first ≡ Some x
  has_second : slice_get xs second ≡ Some y

later : {A : Type 0} (z : A) (xs : List A) (x y : A) → InTurn xs x y → InTurn (z ∷ xs) x y
later z xs x y q = record { first = suc q.first; second = suc q.second; less = omega (arith, q.less); has_first = q.has_first; has_second = q.has_second }

filter_turn : {A : Type 0} (t : A → Bool) (xs pre : List A) (x : A) (more : List A) (y : A) → filter t xs ≡ pre ++ x ∷ more → In y more → InTurn xs x y
filter_turn t [] [] x more y e i = absurd cc
filter_turn t [] (p ∷ pre) x more y e i = absurd cc
filter_turn {A} t (z ∷ zs) pre x more y e i = go (t z) pre e (λ qre d. filter_turn t zs qre x more y d i)
  where
    go : (b : Bool) (pre : List A) → cond b (z ∷ filter t zs) (filter t zs) ≡ pre ++ x ∷ more → ((qre : List A) → filter t zs ≡ qre ++ x ∷ more → InTurn zs x y) → InTurn (z ∷ zs) x y
    go false pre d rest = later z zs x y (rest pre d)
    go true [] d rest =
        let a : z ≡ x = cc in
        let c : filter t zs ≡ more = cc in
        let P : List A → Type 0 = λ ws. In y ws in
        let r = in_got zs y (in-filter t y zs (subst P (sym c) i)).0 in
        record { first = 0; second = suc r.0; less = omega arith; has_first = ap Some a; has_second = r.1 }
    go true (p ∷ qre) d rest = let c : filter t zs ≡ qre ++ x ∷ more = cc in later z zs x y (rest qre c)

-- needs of a block that is reached

in_block : (b : BlockRecord) (v : ValueRecord) (t : ValueRecord → Bool) → In v (filter t b.values) → In v b.values
in_block b v t i = (in-filter t v b.values i).0

-- what is needed by needed values is needed, and none needs itself
pub need_closed : (s : Setting) (f : FuncRecord) → Sound s f → (b : BlockRecord) → IsReached f b → HasBlock f b → (xs : List ValueRecord) → ((v : ValueRecord) → In v xs → In v b.values) → Closed (need f b) xs
need_closed s f h b r i xs all = record {
  trans = λ u v x iu iv ix e d. needs_onward_true u v x (all u iu) (all v iv) (all x ix) e d;
  irreflexive = λ u iu. never u (all u iu);
}
  where
    here : (v : ValueRecord) → In v b.values → HasValue f b v
    here v j = (i, to_contains v b.values j)

    few : (v : ValueRecord) → In v b.values → rank f v.id < room f
    few v j = rank_below_room s f h v.id (record { block = b; value = v; stands = here v j; named = refl; reached = r })

    needs_onward_true : (u v x : ValueRecord) → In u b.values → In v b.values → In x b.values → need f b u v ≡ true → need f b v x ≡ true → need f b u x ≡ true
    needs_onward_true u v x iu iv ix e d =
        true_needs s f h b r i (room f) u x (few u iu)
        (needs_onward b u v x (needs_true s f h (room f) b u v (here u iu) (here v iv) e) (needs_true s f h (room f) b v x (here v iv) (here x ix) d))

    never : (u : ValueRecord) → In u b.values → need f b u u ≡ false
    never u iu = go (need f b u u) refl
      where
        go : (t : Bool) → need f b u u ≡ t → t ≡ false
        go true e = absurd (needs_apart s f h b u (here u iu) (needs_true s f h (room f) b u u (here u iu) (here u iu) e))
        go false e = refl

-- a list after what it needs, in two ways

-- the rank of what is needed is lower
needed_lower : (s : Setting) (f : FuncRecord) → Sound s f → (b : BlockRecord) → IsReached f b → (u v : ValueRecord) → HasValue f b u → HasValue f b v → need f b u v ≡ true → rank f v.id < rank f u.id
needed_lower s f h b r u v i j e = needs_rank s f h b r u v i (needs_true s f h (room f) b u v i j e)

-- room above the rank is enough
after_stable : (s : Setting) (f : FuncRecord) → Sound s f → (b : BlockRecord) → IsReached f b → HasBlock f b → (all : List ValueRecord) → ((v : ValueRecord) → In v all → In v b.values) →
    (k j : ℕ) (v : ValueRecord) → In v all → rank f v.id < k → rank f v.id < j → after k (need f b) all v ≡ after j (need f b) all v
unfolding after
after_stable s f h b r i all within zero j v iv l m = absurd (omega arith)
after_stable s f h b r i all within (suc k) zero v iv l m = absurd (omega arith)
after_stable s f h b r i all within (suc k) (suc j) v iv l m =
    ap (λ (zs : List ValueRecord). zs ++ v ∷ [])
    (flat-same (after k (need f b) all) (after j (need f b) all) (filter (need f b v) all)
    (λ x q.
    let p = in-filter (need f b v) x all q in
    let less = needed_lower s f h b r v x (i, to_contains v b.values (within v iv)) (i, to_contains x b.values (within x p.0)) p.1 in
    after_stable s f h b r i all within k j x p.0 (omega (arith, l, less)) (omega (arith, m, less))))

faults_same : (t : Target) (m : ℕ → ℕ) (d : List ℕ) (h g : ValueRecord → List ValueRecord) (xs : List ValueRecord) → ((x : ValueRecord) → In x xs → first_fault t m d (h x) ≡ first_fault t m d (g x)) →
    first_fault t m d (flat_map h xs) ≡ first_fault t m d (flat_map g xs)
faults_same t m d h g [] k = refl
faults_same t m d h g (x ∷ xs) k =
    first_fault-append t m d (h x) (flat_map h xs)
    ∙ ap (λ o. or_else o (first_fault t m d (flat_map h xs))) (k x (inl refl))
    ∙ ap (or_else (first_fault t m d (g x))) (faults_same t m d h g xs (λ y i. k y (inr i)))
    ∙ sym (first_fault-append t m d (g x) (flat_map g xs))

-- what the laws below are about: checks and loads of a state in a block
record Scene (s : Setting) (f : FuncRecord) (b : BlockRecord) (n : ℕ) : Type 0 where
  sound : Sound s f
  reached : IsReached f b
  block : HasBlock f b

abbrev both : FuncRecord → BlockRecord → ℕ → List ValueRecord
both f b n = checks_at f b n ++ loads_at f b n

both_within : (f : FuncRecord) (b : BlockRecord) (n : ℕ) (v : ValueRecord) → In v (both f b n) → In v b.values
both_within f b n v i = elim (in_either v (checks_at f b n) (loads_at f b n) i) as (λ _. In v b.values) [
  | inl j ↦ in_block b v (λ v. is_check (origin_of v.op.family) && is_at (state_of f v) n) j
  | inr j ↦ in_block b v (λ v. is_load (origin_of v.op.family) && is_at (state_of f v) n) j
]

here : (s : Setting) (f : FuncRecord) (b : BlockRecord) (n : ℕ) → Scene s f b n → (v : ValueRecord) → In v (both f b n) → HasValue f b v
here s f b n c v i = (c.block, to_contains v b.values (both_within f b n v i))

-- where the checks that a value needs do not fault, it faults after all that it needs as after the loads that it needs
one_alike : (s : Setting) (f : FuncRecord) (b : BlockRecord) (n : ℕ) → Scene s f b n → (t : Target) (m : ℕ → ℕ) (d : List ℕ) → (k j : ℕ) (v : ValueRecord) → In v (both f b n) → rank f v.id < k →
    length (filter (need f b v) (loads_at f b n)) ≤ j →
    ((c : ValueRecord) → In c (checks_at f b n) → need f b v c ≡ true → (i : ℕ) → rank f c.id < i → first_fault t m d (after i (need f b) (both f b n) c) ≡ None) →
    first_fault t m d (after k (need f b) (both f b n) v) ≡ first_fault t m d (after_needs j f b (loads_at f b n) v)
unfolding after after_needs
one_alike s f b n c t m d zero j v i l few safe = absurd (omega arith)
one_alike s f b n c t m d (suc k) zero v i l few safe =
    first_fault-append t m d (flat_map (after k (need f b) (both f b n)) (filter (need f b v) (both f b n))) (v ∷ [])
    ∙ ap (λ (xs : List ValueRecord). or_else (first_fault t m d (flat_map (after k (need f b) (both f b n)) xs)) (first_fault t m d (v ∷ [])))
    (filter-append (need f b v) (checks_at f b n) (loads_at f b n) ∙ ap (λ (ys : List ValueRecord). filter (need f b v) (checks_at f b n) ++ ys) (none_left (filter (need f b v) (loads_at f b n)) few))
    ∙ ap (λ o. or_else o (first_fault t m d (v ∷ [])))
    (ap (first_fault t m d) (flat-append (after k (need f b) (both f b n)) (filter (need f b v) (checks_at f b n)) [])
    ∙ first_fault-append t m d (flat_map (after k (need f b) (both f b n)) (filter (need f b v) (checks_at f b n))) []
    ∙ ap (λ o. or_else o None)
    (none_of t m d (after k (need f b) (both f b n)) (filter (need f b v) (checks_at f b n))
    (λ x q.
    let p = in-filter (need f b v) x (checks_at f b n) q in
    let less = needed_lower s f c.sound b c.reached v x (here s f b n c v i) (here s f b n c x (in_left x (checks_at f b n) (loads_at f b n) p.0)) p.1 in
    safe x p.0 p.1 k (omega (arith, l, less)))))
one_alike s f b n c t m d (suc k) (suc j) v i l few safe =
    first_fault-append t m d (flat_map (after k (need f b) (both f b n)) (filter (need f b v) (both f b n))) (v ∷ [])
    ∙ ap (λ o. or_else o (first_fault t m d (v ∷ [])))
    (ap (λ (xs : List ValueRecord). first_fault t m d (flat_map (after k (need f b) (both f b n)) xs)) (filter-append (need f b v) (checks_at f b n) (loads_at f b n))
    ∙ ap (first_fault t m d) (flat-append (after k (need f b) (both f b n)) (filter (need f b v) (checks_at f b n)) (filter (need f b v) (loads_at f b n)))
    ∙ first_fault-append t m d (flat_map (after k (need f b) (both f b n)) (filter (need f b v) (checks_at f b n))) (flat_map (after k (need f b) (both f b n)) (filter (need f b v) (loads_at f b n)))
    ∙ ap (λ o. or_else o (first_fault t m d (flat_map (after k (need f b) (both f b n)) (filter (need f b v) (loads_at f b n)))))
    (none_of t m d (after k (need f b) (both f b n)) (filter (need f b v) (checks_at f b n))
    (λ x q.
    let p = in-filter (need f b v) x (checks_at f b n) q in
    let less = needed_lower s f c.sound b c.reached v x (here s f b n c v i) (here s f b n c x (in_left x (checks_at f b n) (loads_at f b n) p.0)) p.1 in
    safe x p.0 p.1 k (omega (arith, l, less))))
    ∙ faults_same t m d (after k (need f b) (both f b n)) (after_needs j f b (loads_at f b n)) (filter (need f b v) (loads_at f b n))
    (λ x q.
    let p = in-filter (need f b v) x (loads_at f b n) q in
    let ix = in_right x (checks_at f b n) (loads_at f b n) p.0 in
    let less = needed_lower s f c.sound b c.reached v x (here s f b n c v i) (here s f b n c x ix) p.1 in
    let closed = need_closed s f c.sound b c.reached c.block (both f b n) (both_within f b n) in
    let fewer = fewer_by_one (need f b x) (need f b v) x (loads_at f b n) (λ y iy e. closed.trans v x y i ix (in_right y (checks_at f b n) (loads_at f b n) iy) p.1 e) p.0 (closed.irreflexive x ix) p.1 in
    one_alike s f b n c t m d k j x ix (omega (arith, l, less)) (omega (arith, few, fewer))
    (λ y iy e a la. safe y iy (closed.trans v x y i ix (in_left y (checks_at f b n) (loads_at f b n) iy) p.1 e) a la)))
    ∙ sym (first_fault-append t m d (flat_map (after_needs j f b (loads_at f b n)) (filter (need f b v) (loads_at f b n))) (v ∷ []))

-- the checks that a value needs stand before it
check_named : (s : Setting) (f : FuncRecord) (b : BlockRecord) (n : ℕ) → Scene s f b n → (v : ValueRecord) → In v (checks_at f b n) → Checks f b v n
check_named s f b n c v i =
    let q = in-filter (λ v. is_check (origin_of v.op.family) && is_at (state_of f v) n) v b.values i in
    let p = and_parts (is_check (origin_of v.op.family)) (is_at (state_of f v) n) q.1 in
    let j : HasValue f b v = (c.block, to_contains v b.values q.0) in
    (j.1, checks v.op.family p.0, named_state s f c.sound b v j c.reached (no_phi_check v p.0) n (at_some (state_of f v) n p.1))
  where
    no_phi_check : (v : ValueRecord) → is_check (origin_of v.op.family) ≡ true → ¬ IsPhi v
    no_phi_check v e p = let d = ap (λ o. is_check (origin_of o)) p in absurd cc

no_load : (f : FuncRecord) (b : BlockRecord) (n : ℕ) (v : ValueRecord) → In v (checks_at f b n) → In v (loads_at f b n) → ⊥
no_load f b n v i j =
    let p = and_parts (is_check (origin_of v.op.family)) (is_at (state_of f v) n) (in-filter (λ v. is_check (origin_of v.op.family) && is_at (state_of f v) n) v b.values i).1 in
    let q = and_parts (is_load (origin_of v.op.family)) (is_at (state_of f v) n) (in-filter (λ v. is_load (origin_of v.op.family) && is_at (state_of f v) n) v b.values j).1 in
    both_roles (origin_of v.op.family) p.0 q.0
  where
    both_roles : (o : Origin) → is_check o ≡ true → is_load o ≡ true → ⊥
    both_roles checked a e = absurd cc
    both_roles _ a e = absurd cc

needed_before : (s : Setting) (f : FuncRecord) (b : BlockRecord) (n : ℕ) → Scene s f b n → (pre : List ValueRecord) (x : ValueRecord) (post : List ValueRecord) → both f b n ≡ pre ++ x ∷ post →
    (v : ValueRecord) → In v (checks_at f b n) → need f b x v ≡ true → In v pre
needed_before s f b n c pre x post e v i t = go (split (checks_at f b n) (loads_at f b n) pre x post e)
  where
    ix : In x (both f b n)
    ix = (let P : List ValueRecord → Type 0 = λ ys. In x ys in subst P (sym e) (in_right x pre (x ∷ post) (inl refl)))

    iv : In v (both f b n)
    iv = in_left v (checks_at f b n) (loads_at f b n) i

    needed : Needs b x v
    needed = needs_true s f c.sound (room f) b x v (here s f b n c x ix) (here s f b n c v iv) t

    not_listed : In x (checks_at f b n) → InTurn b.values x v → ⊥
    not_listed j q =
        let before : ComesBefore f b x v = check_before x v n (check_named s f b n c x j) (check_named s f b n c v i) (q.first, q.second, q.less, q.has_first, q.has_second) in
        c.sound.order b v (here s f b n c v iv) (behind f b v x v (needs_precede f b x v needed) before)

    where_first : InFirst (checks_at f b n) (loads_at f b n) pre x post → In v pre ⊎ In v (x ∷ post) → In v pre
    where_first q (inl j) = j
    where_first q (inr (inl d)) = absurd (needs_apart s f c.sound b v (here s f b n c v iv) (let P : ValueRecord → Type 0 = λ y. Needs b y v in subst P d needed))
    where_first q (inr (inr j)) =
        let P : List ValueRecord → Type 0 = λ ys. In v ys in
        let R : List ValueRecord → Type 0 = λ ys. In x ys in
        elim (in_either v q.more (loads_at f b n) (subst P q.back j)) as (λ _. In v pre) [
          | inl k ↦ absurd (not_listed (subst R (sym q.front) (in_right x pre (x ∷ q.more) (inl refl)))
              (filter_turn (λ v. is_check (origin_of v.op.family) && is_at (state_of f v) n) b.values pre x q.more v q.front k))
          | inr k ↦ absurd (no_load f b n v i k)
        ]

    go : Split (checks_at f b n) (loads_at f b n) pre x post → In v pre
    go (inl q) = where_first q (in_either v pre (x ∷ post) (let P : List ValueRecord → Type 0 = λ ys. In v ys in subst P e iv))
    go (inr k) = k v i

-- the rest of the list, where what stands before does not fault
rest_alike : (s : Setting) (f : FuncRecord) (b : BlockRecord) (n : ℕ) → Scene s f b n → (t : Target) (m : ℕ → ℕ) (d : List ℕ) → (k : ℕ) → room f ≤ k → (pre post : List ValueRecord) → both f b n ≡ pre ++ post →
    ((x : ValueRecord) → In x pre → first_fault t m d (after k (need f b) (both f b n) x) ≡ None) →
    first_fault t m d (flat_map (after k (need f b) (both f b n)) post) ≡ first_fault t m d (flat_map (after_needs (length (loads_at f b n)) f b (loads_at f b n)) post)
rest_alike s f b n c t m d k l pre [] e safe = refl
rest_alike s f b n c t m d k l pre (x ∷ post) e safe =
    first_fault-append t m d (after k (need f b) (both f b n) x) (flat_map (after k (need f b) (both f b n)) post)
    ∙ go (first_fault t m d (after k (need f b) (both f b n) x)) refl
    (λ q. rest_alike s f b n c t m d k l (pre ++ x ∷ []) post (e ∙ sym (append_assoc pre (x ∷ []) post)) (λ y j. more q y (in_either y pre (x ∷ []) j)))
    ∙ sym (first_fault-append t m d (after_needs (length (loads_at f b n)) f b (loads_at f b n) x) (flat_map (after_needs (length (loads_at f b n)) f b (loads_at f b n)) post))
  where
    within : (v : ValueRecord) → In v (both f b n) → rank f v.id < k
    within v i =
        let q = rank_below_room s f c.sound v.id (record { block = b; value = v; stands = here s f b n c v i; named = refl; reached = c.reached }) in
        omega (arith, q, l)

    ix : In x (both f b n)
    ix = (let P : List ValueRecord → Type 0 = λ ys. In x ys in subst P (sym e) (in_right x pre (x ∷ post) (inl refl)))

    alike : first_fault t m d (after k (need f b) (both f b n) x) ≡ first_fault t m d (after_needs (length (loads_at f b n)) f b (loads_at f b n) x)
    alike =
        one_alike s f b n c t m d k (length (loads_at f b n)) x ix (within x ix) (short (need f b x) (loads_at f b n))
        (λ v i q a la.
        let iv = in_left v (checks_at f b n) (loads_at f b n) i in
        ap (first_fault t m d) (after_stable s f c.sound b c.reached c.block (both f b n) (both_within f b n) a k v iv la (within v iv))
        ∙ safe v (needed_before s f b n c pre x post e v i q))
      where
        short : (u : ValueRecord → Bool) (ys : List ValueRecord) → length (filter u ys) ≤ length ys
        short u [] = omega arith
        short u (y ∷ ys) = pick (u y) (short u ys)
          where
            pick : (z : Bool) → length (filter u ys) ≤ length ys → length (cond z (y ∷ filter u ys) (filter u ys)) ≤ length (y ∷ ys)
            pick true a = omega arith
            pick false a = omega arith

    more : first_fault t m d (after k (need f b) (both f b n) x) ≡ None → (y : ValueRecord) → In y pre ⊎ In y (x ∷ []) → first_fault t m d (after k (need f b) (both f b n) y) ≡ None
    more q y (inl j) = safe y j
    more q y (inr (inl a)) = ap (λ (z : ValueRecord). first_fault t m d (after k (need f b) (both f b n) z)) (sym a) ∙ q
    more q y (inr (inr j)) = elim j [ ]

    go : (o : Option Outcome) → first_fault t m d (after k (need f b) (both f b n) x) ≡ o →
        (first_fault t m d (after k (need f b) (both f b n) x) ≡ None →
        first_fault t m d (flat_map (after k (need f b) (both f b n)) post) ≡ first_fault t m d (flat_map (after_needs (length (loads_at f b n)) f b (loads_at f b n)) post)) →
        or_else o (first_fault t m d (flat_map (after k (need f b) (both f b n)) post))
        ≡ or_else (first_fault t m d (after_needs (length (loads_at f b n)) f b (loads_at f b n) x)) (first_fault t m d (flat_map (after_needs (length (loads_at f b n)) f b (loads_at f b n)) post))
    go None q rest = rest q ∙ ap (λ o. or_else o (first_fault t m d (flat_map (after_needs (length (loads_at f b n)) f b (loads_at f b n)) post))) (sym q ∙ alike)
    go (Some y) q rest = ap (λ o. or_else o (first_fault t m d (flat_map (after_needs (length (loads_at f b n)) f b (loads_at f b n)) post))) (sym q ∙ alike)

-- the checks and loads of a state, in their order, fault as the list that is filled from its end with what nothing left needs
pub order_greedy : (s : Setting) (f : FuncRecord) → Sound s f → (b : BlockRecord) → IsReached f b → HasBlock f b → (n : ℕ) (zs : List ValueRecord) → Greedy (need f b) (checks_at f b n ++ loads_at f b n) zs →
    (t : Target) (m : ℕ → ℕ) (d : List ℕ) → first_fault t m d (order f b n) ≡ first_fault t m d zs
order_greedy s f h b r i n zs g t m d =
    let c : Scene s f b n = record { sound = h; reached = r; block = i } in
    let k = room f + length (both f b n) in
    sym (rest_alike s f b n c t m d (room f + length (both f b n)) (omega arith) [] (both f b n) refl (λ x j. elim j [ ]))
    ∙ greedy_first (need f b) (both f b n) zs g (need_closed s f h b r i (both f b n) (both_within f b n)) (room f + length (both f b n)) (omega arith) t m d
