-- The first fault of a state, where fewer loads stand before its checks.
use Rattle.std.proofs.Common.{◌≡◌, ℕ, zero, suc, refl, subst, ap, sym, ◌∙◌, ◌⊎◌, inl, inr, List, [], ◌∷◌, ◌++◌, length, Option, Some, None, Bool, true, false, cond}
use Rattle.std.specs.Prelude.{filter, flat_map, if◌then◌else◌}
use Rattle.std.specs.List.{AllZip}
use Rattle.bk_num.specs.Bytes.{is_within}
use Rattle.bk_ops.specs.declared.types.Target.{Target}
use Rattle.bk_num.specs.Memory.{data_base}
use Rattle.bk_func.specs.Records.{ValueRecord, BlockRecord, FuncRecord}
use Rattle.bk_func.specs.Numbers.{loaded, origin_of, room, address_by, load_size}
use Rattle.bk_func.specs.Effects.{needs, after_needs}
use Rattle.bk_func.specs.Meaning.{Outcome, wild, fault_at, first_fault, or_else, halted, World}
use Rattle.bk_func.proofs.Runs.{IsWildOutcome, Keeps}

-- the same, unless the first is an access outside the window
abbrev pub IsWildFault : Option Outcome → Type 0
IsWildFault None = ⊥
IsWildFault (Some o) = IsWildOutcome o

abbrev pub Mild : Option Outcome → Option Outcome → Type 0
Mild o u = IsWildFault o ⊎ (o ≡ u)

mild_then : (o o' u u' : Option Outcome) → Mild o o' → Mild u u' → Mild (or_else o u) (or_else o' u')
mild_then None o' u u' (inl h) k = elim h [ ]
mild_then None o' u u' (inr e) k = subst (λ x. Mild u (or_else x u')) e k
mild_then (Some x) o' u u' (inl h) k = inl h
mild_then (Some x) o' u u' (inr e) k = subst (λ y. Mild (Some x) (or_else y u')) e (inr refl)

pub first_fault-append : (t : Target) (m : ℕ → ℕ) (d : List ℕ) (xs ys : List ValueRecord) → first_fault t m d (xs ++ ys) ≡ or_else (first_fault t m d xs) (first_fault t m d ys)
first_fault-append t m d [] ys = refl
first_fault-append t m d (x ∷ xs) ys = ap (or_else (fault_at t m d x)) (first_fault-append t m d xs ys) ∙ assoc (fault_at t m d x)
  where
    assoc : (o : Option Outcome) → or_else o (or_else (first_fault t m d xs) (first_fault t m d ys)) ≡ or_else (or_else o (first_fault t m d xs)) (first_fault t m d ys)
    assoc None = refl
    assoc (Some x) = refl

-- no fault in a list, and in its parts
pub none_first : (o u : Option Outcome) → or_else o u ≡ None → o ≡ None
none_first None u e = refl
none_first (Some x) u e = e

pub none_second : (o u : Option Outcome) → or_else o u ≡ None → u ≡ None
none_second None u e = e
none_second (Some x) u e = cc

pub none_both : (o u : Option Outcome) → o ≡ None → u ≡ None → or_else o u ≡ None
none_both None u e h = h
none_both (Some x) u e h = cc

-- x stands in the list
abbrev pub In : {A : Type 0} → A → List A → Type 0
In x [] = ⊥
In x (y ∷ ys) = (y ≡ x) ⊎ In x ys

pub filter-in : {A : Type 0} (t : A → Bool) (x : A) (xs : List A) → In x xs → t x ≡ true → In x (filter t xs)
filter-in t x [] i e = elim i [ ]
filter-in t x (y ∷ xs) (inl q) e = rw (ap t q ∙ e) (inl q)
filter-in {A} t x (y ∷ xs) (inr i) e = go (t y) (filter-in t x xs i e)
  where
    go : (u : Bool) → In x (filter t xs) → In x (cond u (y ∷ filter t xs) (filter t xs))
    go true j = inr j
    go false j = j

pub in-filter : {A : Type 0} (t : A → Bool) (x : A) (xs : List A) → In x (filter t xs) → In x xs × (t x ≡ true)
in-filter t x [] i = elim i [ ]
in-filter {A} t x (y ∷ xs) i = go (t y) refl (λ j. in-filter t x xs j) i
  where
    go : (u : Bool) → t y ≡ u → (In x (filter t xs) → In x xs × (t x ≡ true)) → In x (cond u (y ∷ filter t xs) (filter t xs)) → In x (y ∷ xs) × (t x ≡ true)
    go true e k (inl q) = (inl q, ap t (sym q) ∙ e)
    go true e k (inr j) = let r = k j in (inr r.0, r.1)
    go false e k j = let r = k j in (inr r.0, r.1)

-- a list of lists has no fault where none of them has one
pub none_in : (t : Target) (m : ℕ → ℕ) (d : List ℕ) (h : ValueRecord → List ValueRecord) (x : ValueRecord) (xs : List ValueRecord) →
    first_fault t m d (flat_map h xs) ≡ None → In x xs → first_fault t m d (h x) ≡ None
none_in t m d h x [] e i = elim i [ ]
none_in t m d h x (y ∷ xs) e (inl q) =
    ap (λ z. first_fault t m d (h z)) (sym q) ∙ none_first (first_fault t m d (h y)) (first_fault t m d (flat_map h xs)) (sym (first_fault-append t m d (h y) (flat_map h xs)) ∙ e)
none_in t m d h x (y ∷ xs) e (inr i) =
    none_in t m d h x xs (none_second (first_fault t m d (h y)) _ (sym (first_fault-append t m d (h y) (flat_map h xs)) ∙ e)) i

pub none_of : (t : Target) (m : ℕ → ℕ) (d : List ℕ) (h : ValueRecord → List ValueRecord) (xs : List ValueRecord) →
    ((x : ValueRecord) → In x xs → first_fault t m d (h x) ≡ None) → first_fault t m d (flat_map h xs) ≡ None
none_of t m d h [] k = refl
none_of t m d h (x ∷ xs) k =
    first_fault-append t m d (h x) (flat_map h xs)
    ∙ none_both _ _ (k x (inl refl)) (none_of t m d h xs (λ y i. k y (inr i)))

-- a load that faults is wild

abbrev pub IsLoadValue : ValueRecord → Type 0
IsLoadValue v = origin_of v.op.family ≡ loaded

abbrev IsWildOrNone : Option Outcome → Type 0
IsWildOrNone o = IsWildFault o ⊎ (o ≡ None)

either_then : (o u : Option Outcome) → IsWildOrNone o → IsWildOrNone u → IsWildOrNone (or_else o u)
either_then None u h k = k
either_then (Some x) u (inl h) k = inl h
either_then (Some x) u (inr e) k = inr e

load_fault : (t : Target) (m : ℕ → ℕ) (d : List ℕ) (v : ValueRecord) → IsLoadValue v → IsWildOrNone (fault_at t m d v)
load_fault t m d v e = rw e (go (is_within data_base d (load_size t v.ty v.op v.op.family) (address_by t v m)))
  where
    go : (b : Bool) → IsWildOrNone (if b then None else Some (wild (address_by t v m)))
    go true = inr refl
    go false = inl tt

loads_fault : (t : Target) (m : ℕ → ℕ) (d : List ℕ) (h : ValueRecord → List ValueRecord) (xs : List ValueRecord) →
    ((x : ValueRecord) → In x xs → IsWildOrNone (first_fault t m d (h x))) → IsWildOrNone (first_fault t m d (flat_map h xs))
loads_fault t m d h [] k = inr refl
loads_fault t m d h (x ∷ xs) k =
    rw (first_fault-append t m d (h x) (flat_map h xs))
    (either_then _ _ (k x (inl refl)) (loads_fault t m d h xs (λ y i. k y (inr i))))

pub or_else-none : (o : Option Outcome) → or_else o None ≡ o
or_else-none None = refl
or_else-none (Some x) = refl

-- the loads that stand before a load
before_load : (k : ℕ) (t : Target) (m : ℕ → ℕ) (d : List ℕ) (f : FuncRecord) (b : BlockRecord) (loads : List ValueRecord) (v : ValueRecord) →
    IsLoadValue v → ((x : ValueRecord) → In x loads → IsLoadValue x) → IsWildOrNone (first_fault t m d (after_needs k f b loads v))
unfolding after_needs
before_load zero t m d f b loads v h k = rw (or_else-none (fault_at t m d v)) (load_fault t m d v h)
before_load (suc n) t m d f b loads v h k =
    rw (first_fault-append t m d (flat_map (after_needs n f b loads) (filter (λ u. needs (room f) b (Some v) u.id) loads)) (v ∷ []), or_else-none (fault_at t m d v))
    (either_then _ _
    (loads_fault t m d (after_needs n f b loads) (filter (λ u. needs (room f) b (Some v) u.id) loads)
    (λ x i. before_load n t m d f b loads x (k x (in-filter (λ u. needs (room f) b (Some v) u.id) x loads i).0) k))
    (load_fault t m d v h))

-- no load that a value needs faults
abbrev Safe : Target → (ℕ → ℕ) → List ℕ → FuncRecord → BlockRecord → List ValueRecord → ValueRecord → Type 0
Safe t m d f b loads v = (x : ValueRecord) → In x loads → needs (room f) b (Some v) x.id ≡ true → fault_at t m d x ≡ None

-- what a value needs needs nothing more
abbrev pub IsClosed : FuncRecord → BlockRecord → List ValueRecord → ValueRecord → Type 0
IsClosed f b loads v = (x y : ValueRecord) → In x loads → In y loads → needs (room f) b (Some v) x.id ≡ true → needs (room f) b (Some x) y.id ≡ true → needs (room f) b (Some v) y.id ≡ true

safe_before : (k : ℕ) (t : Target) (m : ℕ → ℕ) (d : List ℕ) (f : FuncRecord) (b : BlockRecord) (loads : List ValueRecord) (v : ValueRecord) →
    ((x : ValueRecord) → In x loads → IsClosed f b loads x) → IsClosed f b loads v → Safe t m d f b loads v →
    first_fault t m d (flat_map (after_needs k f b loads) (filter (λ u. needs (room f) b (Some v) u.id) loads)) ≡ None
unfolding after_needs
safe_before zero t m d f b loads v c cv h =
    none_of t m d (after_needs zero f b loads) (filter (λ u. needs (room f) b (Some v) u.id) loads)
    (λ x i. let r = in-filter (λ u. needs (room f) b (Some v) u.id) x loads i in or_else-none (fault_at t m d x) ∙ h x r.0 r.1)
safe_before (suc n) t m d f b loads v c cv h =
    none_of t m d (after_needs (suc n) f b loads) (filter (λ u. needs (room f) b (Some v) u.id) loads)
    (λ x i. let r = in-filter (λ u. needs (room f) b (Some v) u.id) x loads i in
    first_fault-append t m d (flat_map (after_needs n f b loads) (filter (λ u. needs (room f) b (Some x) u.id) loads)) (x ∷ [])
    ∙ none_both _ _
    (safe_before n t m d f b loads x c (c x r.0) (λ y j e. h y j (cv x y r.0 j r.1 e)))
    (or_else-none (fault_at t m d x) ∙ h x r.0 r.1))

last_none : (k : ℕ) (t : Target) (m : ℕ → ℕ) (d : List ℕ) (f : FuncRecord) (b : BlockRecord) (loads : List ValueRecord) (v : ValueRecord) →
    first_fault t m d (after_needs k f b loads v) ≡ None → fault_at t m d v ≡ None
unfolding after_needs
last_none zero t m d f b loads v e = sym (or_else-none (fault_at t m d v)) ∙ e
last_none (suc n) t m d f b loads v e =
    sym (or_else-none (fault_at t m d v))
    ∙ none_second (first_fault t m d (flat_map (after_needs n f b loads) (filter (λ u. needs (room f) b (Some v) u.id) loads))) _
    (sym (first_fault-append t m d (flat_map (after_needs n f b loads) (filter (λ u. needs (room f) b (Some v) u.id) loads)) (v ∷ [])) ∙ e)

-- what was put before a value without a fault makes it safe
then_safe : (k : ℕ) (t : Target) (m : ℕ → ℕ) (d : List ℕ) (f : FuncRecord) (b : BlockRecord) (loads : List ValueRecord) (v : ValueRecord) →
    first_fault t m d (flat_map (after_needs k f b loads) (filter (λ u. needs (room f) b (Some v) u.id) loads)) ≡ None → Safe t m d f b loads v
then_safe k t m d f b loads v e x i n =
    last_none k t m d f b loads x
    (none_in t m d (after_needs k f b loads) x (filter (λ u. needs (room f) b (Some v) u.id) loads) e (filter-in (λ u. needs (room f) b (Some v) u.id) x loads i n))

-- lists that go together

pub partner : {A B : Type 0} (V : A → B → Type 0) (xs : List A) (ys : List B) (y : B) → AllZip V xs ys → In y ys → (x : A) × In x xs × V x y
partner V xs [] y z i = elim i [ ]
partner V [] (w ∷ ys) y z i = elim z [ ]
partner {A} {B} V (x ∷ xs) (w ∷ ys) y (h, z) (inl q) = (x, inl refl, (let P : B → Type 0 = λ u. V x u in subst P q h))
partner V (x ∷ xs) (w ∷ ys) y (h, z) (inr i) = let r = partner V xs ys y z i in (r.0, inr r.1, r.2)

pub both_append : {A B : Type 0} (V : A → B → Type 0) (xs zs : List A) (ys ws : List B) → AllZip V xs ys → AllZip V zs ws → AllZip V (xs ++ zs) (ys ++ ws)
both_append V [] zs [] ws h k = k
both_append V [] zs (y ∷ ys) ws h k = elim h [ ]
both_append V (x ∷ xs) zs [] ws h k = elim h [ ]
both_append V (x ∷ xs) zs (y ∷ ys) ws (h, hs) k = (h, both_append V xs zs ys ws hs k)

-- the checks and loads of a state in two functions: each goes with one that faults alike, and in the second function no
-- value needs more loads
pub record Fewer (V : ValueRecord → ValueRecord → Type 0) (t : Target) (m n : ℕ → ℕ) (d : List ℕ) (f g : FuncRecord) (b c : BlockRecord) (loads loads' : List ValueRecord) : Type 0 where
  pub zipped : AllZip V loads loads'
  pub are_loads : (x : ValueRecord) → In x loads → IsLoadValue x
  pub fault : (v v' : ValueRecord) → V v v' → fault_at t m d v ≡ fault_at t n d v'
  pub needed : (v v' u u' : ValueRecord) → V v v' → V u u' → needs (room g) c (Some v') u'.id ≡ true → needs (room f) b (Some v) u.id ≡ true
  pub closed : (v v' : ValueRecord) → V v v' → IsClosed g c loads' v'

before_mild : (j k : ℕ) (V : ValueRecord → ValueRecord → Type 0) (t : Target) (m n : ℕ → ℕ) (d : List ℕ) (f g : FuncRecord) (b c : BlockRecord) (loads loads' : List ValueRecord) →
    Fewer V t m n d f g b c loads loads' → (v v' : ValueRecord) → V v v' →
    Mild (first_fault t m d (flat_map (after_needs j f b loads) (filter (λ u. needs (room f) b (Some v) u.id) loads)))
    (first_fault t n d (flat_map (after_needs k g c loads') (filter (λ u. needs (room g) c (Some v') u.id) loads')))
before_mild j k V t m n d f g b c loads loads' w v v' h =
    go (loads_fault t m d (after_needs j f b loads) (filter (λ u. needs (room f) b (Some v) u.id) loads)
    (λ x i. before_load j t m d f b loads x (w.are_loads x (in-filter (λ u. needs (room f) b (Some v) u.id) x loads i).0) w.are_loads))
  where
    left : Option Outcome
    left = first_fault t m d (flat_map (after_needs j f b loads) (filter (λ u. needs (room f) b (Some v) u.id) loads))

    safe : left ≡ None → Safe t n d g c loads' v'
    safe e x i q =
        let r = partner V loads loads' x w.zipped i in
        sym (w.fault r.0 x r.2) ∙ then_safe j t m d f b loads v e r.0 r.1 (w.needed v v' r.0 x h r.2 q)

    closed : (x : ValueRecord) → In x loads' → IsClosed g c loads' x
    closed x i = let r = partner V loads loads' x w.zipped i in w.closed r.0 x r.2

    go : IsWildOrNone left → Mild left (first_fault t n d (flat_map (after_needs k g c loads') (filter (λ u. needs (room g) c (Some v') u.id) loads')))
    go (inl e) = inl e
    go (inr e) = inr (e ∙ sym (safe_before k t n d g c loads' v' closed (w.closed v v' h) (safe e)))

one_mild : (j k : ℕ) (V : ValueRecord → ValueRecord → Type 0) (t : Target) (m n : ℕ → ℕ) (d : List ℕ) (f g : FuncRecord) (b c : BlockRecord) (loads loads' : List ValueRecord) →
    Fewer V t m n d f g b c loads loads' → (v v' : ValueRecord) → V v v' →
    Mild (first_fault t m d (after_needs (suc j) f b loads v)) (first_fault t n d (after_needs (suc k) g c loads' v'))
unfolding after_needs
one_mild j k V t m n d f g b c loads loads' w v v' h =
    rw (
      first_fault-append t m d (flat_map (after_needs j f b loads) (filter (λ u. needs (room f) b (Some v) u.id) loads)) (v ∷ []),
      first_fault-append t n d (flat_map (after_needs k g c loads') (filter (λ u. needs (room g) c (Some v') u.id) loads')) (v' ∷ []),
    )
    (mild_then _ _ _ _ (before_mild j k V t m n d f g b c loads loads' w v v' h) (inr (ap (λ o. or_else o None) (w.fault v v' h))))

alone_mild : (V : ValueRecord → ValueRecord → Type 0) (t : Target) (m n : ℕ → ℕ) (d : List ℕ) (f g : FuncRecord) (b c : BlockRecord) (loads loads' : List ValueRecord) →
    Fewer V t m n d f g b c loads loads' → (v v' : ValueRecord) → V v v' →
    Mild (first_fault t m d (after_needs 0 f b loads v)) (first_fault t n d (after_needs 0 g c loads' v'))
unfolding after_needs
alone_mild V t m n d f g b c loads loads' w v v' h = inr (ap (λ o. or_else o None) (w.fault v v' h))

each_mild : (V : ValueRecord → ValueRecord → Type 0) (t : Target) (m n : ℕ → ℕ) (d : List ℕ) (h h' : ValueRecord → List ValueRecord) (xs ys : List ValueRecord) →
    AllZip V xs ys → ((v v' : ValueRecord) → V v v' → Mild (first_fault t m d (h v)) (first_fault t n d (h' v'))) →
    Mild (first_fault t m d (flat_map h xs)) (first_fault t n d (flat_map h' ys))
each_mild V t m n d h h' [] [] z k = inr refl
each_mild V t m n d h h' [] (y ∷ ys) z k = elim z [ ]
each_mild V t m n d h h' (x ∷ xs) [] z k = elim z [ ]
each_mild V t m n d h h' (x ∷ xs) (y ∷ ys) (q, z) k =
    rw (first_fault-append t m d (h x) (flat_map h xs), first_fault-append t n d (h' y) (flat_map h' ys))
    (mild_then _ _ _ _ (k x y q) (each_mild V t m n d h h' xs ys z k))

-- in the second function the state's first fault is the same, unless it is an access outside the window in the first
pub order_mild : (V : ValueRecord → ValueRecord → Type 0) (t : Target) (m n : ℕ → ℕ) (d : List ℕ) (f g : FuncRecord) (b c : BlockRecord) (checks checks' loads loads' : List ValueRecord) →
    AllZip V checks checks' → Fewer V t m n d f g b c loads loads' →
    Mild (first_fault t m d (flat_map (after_needs (length loads) f b loads) (checks ++ loads)))
    (first_fault t n d (flat_map (after_needs (length loads') g c loads') (checks' ++ loads')))
order_mild V t m n d f g b c checks checks' [] [] z w =
    each_mild V t m n d (after_needs 0 f b []) (after_needs 0 g c []) (checks ++ []) (checks' ++ []) (both_append V checks [] checks' [] z tt)
    (λ v v' h. alone_mild V t m n d f g b c [] [] w v v' h)
order_mild V t m n d f g b c checks checks' [] (y ∷ ys) z w = elim w.zipped [ ]
order_mild V t m n d f g b c checks checks' (x ∷ xs) [] z w = elim w.zipped [ ]
order_mild V t m n d f g b c checks checks' (x ∷ xs) (y ∷ ys) z w =
    each_mild V t m n d (after_needs (suc (length xs)) f b (x ∷ xs)) (after_needs (suc (length ys)) g c (y ∷ ys)) (checks ++ x ∷ xs) (checks' ++ y ∷ ys)
    (both_append V checks (x ∷ xs) checks' (y ∷ ys) z w.zipped)
    (λ v v' h. one_mild (length xs) (length ys) V t m n d f g b c (x ∷ xs) (y ∷ ys) w v v' h)

-- so the run goes on with the same, or ends alike
pub halted_kept : {A B : Type 0} (R : A → B → Type 0) (o u : Option Outcome) (a : A) (b : B) (w : World) → Mild o u → R a b → Keeps R (halted o a w) (halted u b w)
halted_kept R None u a b w (inl h) r = elim h [ ]
halted_kept R None None a b w (inr e) r = inr (r, refl)
halted_kept R None (Some y) a b w (inr e) r = absurd cc
halted_kept R (Some x) u a b w (inl h) r = inl h
halted_kept R (Some x) None a b w (inr e) r = absurd cc
halted_kept R (Some x) (Some y) a b w (inr e) r = inr ((let q : x ≡ y = cc in q), refl)
