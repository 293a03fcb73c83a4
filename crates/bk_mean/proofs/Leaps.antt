-- What numbers stand for through copies of memory, and the places of it, gone through twice as many copies each time.
use Rattle.std.proofs.Common.{◌≡◌, ℕ, zero, suc, ◌+◌, ◌-◌, ◌<◌, ◌≤◌, refl, ap, sym, ◌∙◌, subst, arith, ◌⊎◌, inl, inr, List, [], ◌∷◌, ◌++◌, length, map, drop, append_assoc, Option, Some, None, Bool, true, false, cond, get_or}
use Rattle.std.specs.Prelude.{◌==◌, if◌then◌else◌, flat_map, unwrap_or, option_and_then, slice_get, slice_index, slice_set}
use Rattle.std.proofs.lemmas.Bool.{cases_eq, lt-ltb, eqb-true}
use Rattle.std.proofs.lemmas.Bool.Decides.{nat_tests}
use Rattle.std.proofs.lemmas.Option.{slice_get_within}
use Rattle.std.proofs.lemmas.List.{length-map, length-set, get_or-set_same, get_or-set_other, drop_more}
use Rattle.bk_func.specs.Records.{ValueRecord, BlockRecord, FuncRecord}
use Rattle.bk_func.specs.Numbers.{values_of, value_of, room, is_memory_copy, copied, memory_at}
use Rattle.bk_mean.proofs.Firsts.{find_none}
use Rattle.bk_places.proofs.Positions.{got_get_or, position_first}
use Rattle.bk_mean.proofs.Positions.{first_find}
use Rattle.bk_mean.specs.declared.numbering.Numbering.{Numbering}
use Rattle.bk_mean.specs.Numbering.{found_in, place_in, copied_by, AreRoots, IsNumbering, root_in, within}

-- steps

-- one copy more, at its end
pub one_more : (k : ℕ) (f : FuncRecord) (id : ℕ) → memory_at (suc k) f id ≡ memory_at k f (memory_at 1 f id)
one_more k f id = go (value_of f id) refl
  where
    stays : (o : Option ValueRecord) → value_of f id ≡ o → ((next : ℕ → ℕ) → copied o next id ≡ id) → (n : ℕ) → memory_at n f id ≡ id
    stays o e h zero = refl
    stays o e h (suc n) = ap (λ x. copied x (memory_at n f) id) e ∙ h (memory_at n f)

    other : (v : ValueRecord) → is_memory_copy v ≡ false → (next : ℕ → ℕ) → copied (Some v) next id ≡ id
    other v c next = rw c refl

    step : (v : ValueRecord) → value_of f id ≡ Some v → is_memory_copy v ≡ true → (n : ℕ) → memory_at (suc n) f id ≡ memory_at n f (slice_index v.args 0)
    step v e c n = ap (λ x. copied x (memory_at n f) id) e ∙ ap (λ (b : Bool). if b then memory_at n f (slice_index v.args 0) else id) c

    by : (v : ValueRecord) → value_of f id ≡ Some v → (b : Bool) → is_memory_copy v ≡ b → memory_at (suc k) f id ≡ memory_at k f (memory_at 1 f id)
    by v e true c = step v e c k ∙ ap (memory_at k f) (sym (step v e c 0))
    by v e false c =
        let s = stays (Some v) e (other v c) in
        s (suc k) ∙ sym (s k) ∙ ap (memory_at k f) (sym (s 1))

    go : (o : Option ValueRecord) → value_of f id ≡ o → memory_at (suc k) f id ≡ memory_at k f (memory_at 1 f id)
    go None e = let s = stays None e (λ next. refl) in s (suc k) ∙ sym (s k) ∙ ap (memory_at k f) (sym (s 1))
    go (Some v) e = by v e (is_memory_copy v) refl

pub farther : (a b : ℕ) (f : FuncRecord) (id : ℕ) → memory_at (a + b) f id ≡ memory_at a f (memory_at b f id)
farther a zero f id = let P : ℕ → Type 0 = λ n. memory_at n f id ≡ memory_at a f id in let e : a ≡ a + 0 = omega arith in subst P e refl
farther a (suc b) f id =
    let P : ℕ → Type 0 = λ n. memory_at n f id ≡ memory_at a f (memory_at (suc b) f id) in
    let e : suc (a + b) ≡ a + suc b = omega arith in
    subst P e (one_more (a + b) f id ∙ farther a b f (memory_at 1 f id) ∙ ap (memory_at a f) (sym (one_more b f id)))

-- where one more copy leads nowhere else, neither do others
pub settled_at : (f : FuncRecord) (id : ℕ) → memory_at 1 f id ≡ id → (k : ℕ) → memory_at k f id ≡ id
settled_at f id e zero = refl
settled_at f id e (suc k) = one_more k f id ∙ ap (memory_at k f) e ∙ settled_at f id e k

pub settled_from : (f : FuncRecord) (n id : ℕ) → memory_at (suc n) f id ≡ memory_at n f id → (j : ℕ) → n ≤ j → memory_at j f id ≡ memory_at n f id
settled_from f n id e j l =
    let P : ℕ → Type 0 = λ x. memory_at x f id ≡ memory_at n f id in
    let s : (j - n) + n ≡ j = omega (arith, l) in
    let one : memory_at 1 f (memory_at n f id) ≡ memory_at n f id = sym (farther 1 n f id) ∙ (let R : ℕ → Type 0 = λ x. memory_at x f id ≡ memory_at n f id in let q : suc n ≡ 1 + n = omega arith in subst R q e) in
    subst P s (farther (j - n) n f id ∙ settled_at f (memory_at n f id) one (j - n))

-- places

-- the place of a number that is found, and the number at it
pub record IsFoundAt (f : FuncRecord) (id p : ℕ) (v : ValueRecord) : Type 0 where
  pub got : slice_get (values_of f) p ≡ Some v
  pub named : v.id ≡ id
  pub found : value_of f id ≡ Some v
  pub low : p < room f

pub found_at : (f : FuncRecord) (id p : ℕ) → found_in f id ≡ Some p → (v : ValueRecord) × IsFoundAt f id p v
found_at f id p e =
    let q = position_first (λ (v : ValueRecord). v.id == id) (values_of f) p e in (
      q.0,
      record {
        got = q.1.got;
        named = eqb-true q.0.id id q.1.passes;
        found = first_find (λ (v : ValueRecord). v.id == id) (values_of f) p q.0 q.1;
        low = slice_get_within (values_of f) p q.0 q.1.got;
      },
    )

pub none_found : (f : FuncRecord) (id : ℕ) → found_in f id ≡ None → value_of f id ≡ None
none_found f id e = find_none (λ (v : ValueRecord). v.id == id) (values_of f) e

-- a number that no value bears stands for itself
pub stays_itself : (f : FuncRecord) (id : ℕ) → value_of f id ≡ None → memory_at 1 f id ≡ id
stays_itself f id e = ap (λ o. copied o (memory_at 0 f) id) e

-- the place of a number is low where a value bears it
pub place_low : (f : FuncRecord) (id : ℕ) → place_in f id < room f → found_in f id ≡ Some (place_in f id)
place_low f id l = go (found_in f id) refl
  where
    go : (o : Option ℕ) → found_in f id ≡ o → found_in f id ≡ Some (place_in f id)
    go None e = let k : place_in f id ≡ room f = ap (λ o. unwrap_or o (room f)) e in absurd (omega (arith, l, k))
    go (Some p) e = e ∙ ap Some (sym (ap (λ o. unwrap_or o (room f)) e))

pub place_high : (f : FuncRecord) (id : ℕ) → room f ≤ place_in f id → found_in f id ≡ None
place_high f id l = go (found_in f id) refl
  where
    go : (o : Option ℕ) → found_in f id ≡ o → found_in f id ≡ None
    go None e = e
    go (Some p) e =
        let k : place_in f id ≡ p = ap (λ o. unwrap_or o (room f)) e in
        let q = (found_at f id p e).1.low in
        absurd (omega (arith, l, k, q))

-- roots

-- one copy
slice_index-map : {A : Type 0} (g : A → ℕ) (xs : List A) (k : ℕ) (x : A) → slice_get xs k ≡ Some x → slice_index (map g xs) k ≡ g x
slice_index-map g [] k x e = absurd cc
slice_index-map g (y ∷ ys) zero x e = let d : y ≡ x = cc in ap g d
slice_index-map g (y ∷ ys) (suc k) x e = slice_index-map g ys k x e

one_copy : (f : FuncRecord) (id : ℕ) (v : ValueRecord) → value_of f id ≡ Some v → v.id ≡ id → memory_at 1 f id ≡ copied_by v
one_copy f id v e n = ap (λ o. copied o (memory_at 0 f) id) e ∙ go (is_memory_copy v)
  where
    go : (b : Bool) → (if b then slice_index v.args 0 else id) ≡ (if b then slice_index v.args 0 else v.id)
    go true = refl
    go false = sym n

pub roots_start : (f : FuncRecord) (list : List ℕ) → list ≡ map (λ v. place_in f (copied_by v)) (values_of f) → AreRoots f 1 list
roots_start f list e = record {
  length = ap length e ∙ simp length-map;
  each = λ id p h.
      let q = found_at f id p h in (
        1,
        omega arith,
        ap (λ xs. slice_index xs p) e ∙ slice_index-map (λ (v : ValueRecord). place_in f (copied_by v)) (values_of f) p q.0 q.1.got
            ∙ ap (place_in f) (sym (one_copy f id q.0 q.1.found q.1.named)),
      );
}

pub roots_fewer : (f : FuncRecord) (n m : ℕ) (roots : List ℕ) → AreRoots f n roots → m ≤ n → AreRoots f m roots
roots_fewer f n m roots h l = record { length = h.length; each = λ id p e. let r = h.each id p e in let k = r.1 in (r.0, omega (arith, k, l), r.2) }

-- the places before i have gone twice as far
pub record Leaping (f : FuncRecord) (n i : ℕ) (roots : List ℕ) : Type 0 where
  pub length : length roots ≡ room f
  pub each : (id p : ℕ) → found_in f id ≡ Some p → (j : ℕ) × (n ≤ j) × (p < i → n + n ≤ j) × (slice_index roots p ≡ place_in f (memory_at j f id))

pub leaping_none : (f : FuncRecord) (n : ℕ) (roots : List ℕ) → AreRoots f n roots → Leaping f n 0 roots
leaping_none f n roots h = record { length = h.length; each = λ id p e. let r = h.each id p e in (r.0, r.1, (λ l. absurd (omega (arith, l))), r.2) }

pub leaping_all : (f : FuncRecord) (n i : ℕ) (roots : List ℕ) → Leaping f n i roots → length roots ≤ i → AreRoots f (n + n) roots
leaping_all f n i roots h l = record {
  length = h.length;
  each = λ id p e.
      let r = h.each id p e in
      let q = (found_at f id p e).1.low in
      let k = h.length in
      (r.0, r.2 (omega (arith, q, k, l)), r.3);
}

-- what leads to no value goes nowhere else
pub leaping_stays : (f : FuncRecord) (n i : ℕ) (roots : List ℕ) → Leaping f n i roots → length roots ≤ slice_index roots i → Leaping f n (i + 1) roots
leaping_stays f n i roots h high = record { length = h.length; each = λ id p e. go id p e (h.each id p e) (cases_eq p i) }
  where
    go : (id p : ℕ) → found_in f id ≡ Some p → (j : ℕ) × (n ≤ j) × (p < i → n + n ≤ j) × (slice_index roots p ≡ place_in f (memory_at j f id)) → (p ≡ i) ⊎ (p ≡ i → ⊥) →
        (j : ℕ) × (n ≤ j) × (p < i + 1 → n + n ≤ j) × (slice_index roots p ≡ place_in f (memory_at j f id))
    go id p e (j, a, b, r) (inr d) = (j, a, (λ l. b (omega (arith, l, d))), r)
    go id p e (j, a, b, r) (inl d) =
        let k = h.length in
        let x = ap (slice_index roots) d in
        let none = place_high f (memory_at j f id) (omega (arith, k, x, r, high)) in
        let s = settled_at f (memory_at j f id) (stays_itself f (memory_at j f id) (none_found f (memory_at j f id) none)) n in
        (n + j, omega (arith, a), (λ l. omega (arith, a)), r ∙ ap (place_in f) (sym (farther n j f id ∙ s)))

pub leaping_more : (f : FuncRecord) (n i : ℕ) (roots : List ℕ) → Leaping f n i roots → i < length roots → slice_index roots i < length roots →
    Leaping f n (i + 1) (slice_set roots i (slice_index roots (slice_index roots i)))
leaping_more f n i roots h l low = record {
  length = length-set roots i (slice_index roots (slice_index roots i)) ∙ h.length;
  each = λ id p e. go id p e (h.each id p e) (cases_eq p i);
}
  where
    new : List ℕ
    new = slice_set roots i (slice_index roots (slice_index roots i))

    go : (id p : ℕ) → found_in f id ≡ Some p → (j : ℕ) × (n ≤ j) × (p < i → n + n ≤ j) × (slice_index roots p ≡ place_in f (memory_at j f id)) → (p ≡ i) ⊎ (p ≡ i → ⊥) →
        (j : ℕ) × (n ≤ j) × (p < i + 1 → n + n ≤ j) × (slice_index (slice_set roots i (slice_index roots (slice_index roots i))) p ≡ place_in f (memory_at j f id))
    go id p e (j, a, b, r) (inr d) = (j, a, (λ q. b (omega (arith, q, d))), get_or-set_other roots i p (slice_index roots (slice_index roots i)) 0 d ∙ r)
    go id p e (j, a, b, r) (inl d) =
        let k = h.length in
        let x = ap (slice_index roots) d in
        let m = memory_at j f id in
        let at : found_in f m ≡ Some (place_in f m) = place_low f m (omega (arith, k, x, r, low)) in
        let s = h.each m (place_in f m) at in
        let y : slice_index roots i ≡ place_in f m = sym x ∙ r in
        let c = s.1 in (
          s.0 + j,
          omega (arith, a),
          (λ q. omega (arith, a, c)),
          ap (slice_index (slice_set roots i (slice_index roots (slice_index roots i)))) d ∙ get_or-set_same roots i (slice_index roots (slice_index roots i)) 0 l
              ∙ ap (slice_index roots) y ∙ s.3 ∙ ap (place_in f) (sym (farther s.0 j f id)),
        )

-- where one more copy than the function has values leads nowhere else, the root is what the number stands for
pub root_is : (f : FuncRecord) (n : Numbering) → IsNumbering f n → (id : ℕ) → memory_at (suc (room f)) f id ≡ memory_at (room f) f id → root_in n id ≡ found_in f (memory_at (room f) f id)
root_is f n h id e = go (found_in f id) refl
  where
    by : (p : ℕ) → found_in f id ≡ Some p → root_in n id ≡ found_in f (memory_at (room f) f id)
    by p q =
        let r = h.roots.each id p q in
        let k = h.roots.length in
        let w : slice_index n.roots.items p ≡ place_in f (memory_at (room f) f id) = r.2 ∙ ap (place_in f) (settled_from f (room f) id e r.0 r.1) in
        let l = (found_at f id p q).1.low in
        let g : slice_get n.roots.items p ≡ Some (place_in f (memory_at (room f) f id)) = got_get_or n.roots.items p 0 (omega (arith, l, k)) ∙ ap Some w in
        ap (option_and_then (λ (x : ℕ). option_and_then (within (length n.roots.items)) (slice_get n.roots.items x))) (h.values id ∙ q)
        ∙ ap (option_and_then (within (length n.roots.items))) g ∙ ap (λ x. within x (place_in f (memory_at (room f) f id))) k ∙ last (found_in f (memory_at (room f) f id)) refl
      where
        high : (a : ℕ) → within a a ≡ None
        high a = grind (arith, nat_tests)

        last : (o : Option ℕ) → found_in f (memory_at (room f) f id) ≡ o → within (room f) (place_in f (memory_at (room f) f id)) ≡ found_in f (memory_at (room f) f id)
        last None t =
            let x : place_in f (memory_at (room f) f id) ≡ room f = ap (λ o. unwrap_or o (room f)) t in
            ap (within (room f)) x ∙ high (room f) ∙ sym t
        last (Some a) t =
            let x : place_in f (memory_at (room f) f id) ≡ a = ap (λ o. unwrap_or o (room f)) t in
            let l = (found_at f (memory_at (room f) f id) a t).1.low in
            ap (within (room f)) x ∙ ap (λ b. cond b (Some a) None) (lt-ltb a (room f) l) ∙ sym t

    go : (o : Option ℕ) → found_in f id ≡ o → root_in n id ≡ found_in f (memory_at (room f) f id)
    go None q =
        let s = settled_at f id (stays_itself f id (none_found f id q)) (room f) in
        ap (option_and_then (λ (x : ℕ). option_and_then (within (length n.roots.items)) (slice_get n.roots.items x))) (h.values id ∙ q) ∙ sym (ap (found_in f) s ∙ q)
    go (Some p) q = by p q

-- lists of what each value copies

map_same : {A B : Type 0} (g h : A → B) (xs : List A) → ((x : A) → g x ≡ h x) → map g xs ≡ map h xs
map_same g h [] e = refl
map_same g h (x ∷ xs) e = let a = e x in let b = map_same g h xs e in cc

pub places_are : (f : FuncRecord) (at : ℕ → Option ℕ) (count : ℕ) (list : List ℕ) → count ≡ room f → ((id : ℕ) → at id ≡ found_in f id) → list ≡ map (λ v. unwrap_or (at (copied_by v)) count) (values_of f) → AreRoots f 1 list
places_are f at count list n h e =
    roots_start f list (e ∙ map_same (λ (v : ValueRecord). unwrap_or (at (copied_by v)) count) (λ (v : ValueRecord). place_in f (copied_by v)) (values_of f) (λ v. ap (λ o. unwrap_or o count) (h (copied_by v)) ∙ ap (unwrap_or (found_in f (copied_by v))) n))

pub mapped_more : (g : ValueRecord → ℕ) (bs : List BlockRecord) (i : ℕ) (b : BlockRecord) (list new all : List ℕ) → i < length bs → b ≡ get_or bs i b → new ≡ list ++ map g b.values →
    list ++ map g (flat_map (λ c. c.values) (drop i bs)) ≡ all → new ++ map g (flat_map (λ c. c.values) (drop (i + 1) bs)) ≡ all
mapped_more g bs i b list new all h e n q =
    ap (λ xs. xs ++ map g (flat_map (λ c. c.values) (drop (i + 1) bs))) n ∙ append_assoc list (map g b.values) (map g (flat_map (λ c. c.values) (drop (i + 1) bs)))
    ∙ ap (λ xs. list ++ xs) (sym (map_append g b.values (flat_map (λ c. c.values) (drop (i + 1) bs))))
    ∙ ap (λ (c : BlockRecord). list ++ map g (c.values ++ flat_map (λ c. c.values) (drop (i + 1) bs))) e
    ∙ ap (λ cs. list ++ map g (flat_map (λ c. c.values) cs)) (sym (drop_more bs i b h)) ∙ q
  where
    map_append : (g : ValueRecord → ℕ) (xs ys : List ValueRecord) → map g (xs ++ ys) ≡ map g xs ++ map g ys
    map_append g [] ys = refl
    map_append g (x ∷ xs) ys = ap (λ zs. g x ∷ zs) (map_append g xs ys)
