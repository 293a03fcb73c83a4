-- The keys that a round announces.
use Rattle.std.proofs.Common.{◌≡◌, ◌≢◌, ℕ, zero, suc, ◌<◌, ◌==◌, Bool, true, false, cond, List, [], ◌∷◌, map, get_or, refl, sym, ap, ◌∙◌, subst, arith, eq-eqb, ⊎_elim, true≢false, Some}
use Rattle.std.specs.Prelude.{slice_get}
use Rattle.std.specs.List.{All, Contains, filter, flat_map}
use Rattle.std.proofs.lemmas.Bool.Decides.{nat_tests}
use Rattle.std.proofs.lemmas.List.Elements.{All-cons, All-contains, All-nil, Contains-append_cases, Contains-append_left, Contains-append_right, Contains-get_or}
use Rattle.std.proofs.lemmas.List.Concat.{flat_map-cons}
use Rattle.bk_core.specs.Rule.{keys_of}
use Rattle.bk_fixup.specs.Keys.{IsKey}
use Rattle.bk_piece.specs.declared.Key.{Key}
use Rattle.bk_piece.proofs.Elements.{has_cases, has_here, has_none, has_there}
use Rattle.bk_work.specs.declared.rounds.Job.{Job}
use Rattle.bk_work.specs.Package.{in_area}
use Rattle.bk_work.specs.Rounds.{AreKeys, Entry, IsAnnounced, announced_by, announced_for, area_keys, entries_in}

-- what a flat_map gives
pub has_flat : {X Y : Type 0} (f : X → List Y) (xs : List X) (x : X) (y : Y) → Contains xs x → Contains (f x) y → Contains (flat_map f xs) y
has_flat f [] x y h e = absurd (has_none x h)
has_flat {X} {Y} f (z ∷ xs) x y h e = subst (λ (l : List Y). Contains l y) (sym (flat_map-cons f z xs)) (⊎_elim
    (λ (same : z ≡ x). Contains-append_left (f z) (flat_map f xs) y (subst (λ (w : X). Contains (f w) y) (sym same) e))
    (λ rest. Contains-append_right (f z) (flat_map f xs) y (has_flat f xs x y rest e))
    (has_cases z xs x h))

pub from_flat : {X Y : Type 0} (f : X → List Y) (xs : List X) (y : Y) → Contains (flat_map f xs) y → (x : X) × Contains xs x × Contains (f x) y
from_flat f [] y h = absurd (has_none y h)
from_flat {X} {Y} f (z ∷ xs) y h = ⊎_elim
    (λ front. (z, has_here z xs, front))
    (λ rest. let i = from_flat f xs y rest in (i.0, has_there z xs i.0 i.1, i.2))
    (Contains-append_cases (f z) (flat_map f xs) y (subst (λ (l : List Y). Contains l y) (flat_map-cons f z xs) h))

-- the keys of an area
pub has_key : (a : ℕ) (ks : List Key) (k : Key) → Contains ks k → k.area ≡ a → Contains (in_area a ks) k.key
has_key a [] k h e = absurd (has_none k h)
has_key a (z ∷ ks) k h e = ⊎_elim
    (λ (same : z ≡ k). let t : (z.area == a) ≡ true = eq-eqb z.area a (ap (λ (j : Key). j.area) same ∙ e) in
    front (z.area == a) t (ap (λ (j : Key). j.key) same))
    (λ rest. back (z.area == a) (has_key a ks k rest e))
    (has_cases z ks k h)
  where
    front : (b : Bool) → b ≡ true → z.key ≡ k.key → Contains (map (λ (j : Key). j.key) (cond b (z ∷ filter (λ (j : Key). j.area == a) ks) (filter (λ (j : Key). j.area == a) ks))) k.key
    front true t same = subst (λ (n : ℕ). Contains (n ∷ in_area a ks) k.key) (sym same) (has_here k.key (in_area a ks))
    front false t same = absurd (true≢false (sym t))

    back : (b : Bool) → Contains (in_area a ks) k.key → Contains (map (λ (j : Key). j.key) (cond b (z ∷ filter (λ (j : Key). j.area == a) ks) (filter (λ (j : Key). j.area == a) ks))) k.key
    back true r = has_there z.key (in_area a ks) k.key r
    back false r = r

pub from_key : (a : ℕ) (ks : List Key) (q : ℕ) → Contains (in_area a ks) q → (k : Key) × Contains ks k × (k.area ≡ a) × (k.key ≡ q)
from_key a [] q h = absurd (has_none q h)
from_key a (z ∷ ks) q h = by (from_key a ks q) (z.area == a) refl h
  where
    by : (Contains (in_area a ks) q → (k : Key) × Contains ks k × (k.area ≡ a) × (k.key ≡ q)) → (b : Bool) → (z.area == a) ≡ b
        → Contains (map (λ (j : Key). j.key) (cond b (z ∷ filter (λ (j : Key). j.area == a) ks) (filter (λ (j : Key). j.area == a) ks))) q
        → (k : Key) × Contains (z ∷ ks) k × (k.area ≡ a) × (k.key ≡ q)
    by again true t r = ⊎_elim
        (λ (same : z.key ≡ q). (z, has_here z ks, grind (arith, nat_tests), same))
        (λ rest. let i = again rest in (i.0, has_there z ks i.0 i.1, i.2, i.3))
        (has_cases z.key (in_area a ks) q r)
    by again false t r = let i = again r in (i.0, has_there z ks i.0 i.1, i.2, i.3)

-- no announced key is 0
abbrev AreFull : List ℕ → Type 0
AreFull xs = All (λ (x : ℕ). x ≢ 0) xs

nonzero : (es : List Entry) (a : ℕ) → AreKeys es → AreFull (area_keys a es)
nonzero es a good = λ i d lt.
    let q = get_or (area_keys a es) i d in
    let e = from_flat (λ (r : Entry). in_area a r.1.items) es q (Contains-get_or (area_keys a es) i d lt) in
    let k = from_key a e.0.1.items q e.2 in
    let keys : All IsKey e.0.1.items = All-contains (λ (r : Entry). All IsKey r.1.items) es e.0 good e.1 in
    let is : IsKey k.0 = All-contains IsKey e.0.1.items k.0 keys k.1 in
    λ z. is.1 (k.3 ∙ z)

pub all_nonzero : (es : List Entry) → AreKeys es → All AreFull (announced_by es)
all_nonzero es good =
    All-cons AreFull (area_keys 0 es) (area_keys 1 es ∷ area_keys 2 es ∷ []) (nonzero es 0 good)
    (All-cons AreFull (area_keys 1 es) (area_keys 2 es ∷ []) (nonzero es 1 good)
    (All-cons AreFull (area_keys 2 es) [] (nonzero es 2 good) (All-nil AreFull)))

-- the keys of a lowered function are announced
announces : (es : List Entry) (e : Entry) (k : Key) → Contains es e → Contains e.1.items k → k.area < 3 → IsAnnounced (announced_by es) k
announces es e k has here lt = by k.area lt refl
  where
    listed : (a : ℕ) → k.area ≡ a → Contains (area_keys a es) k.key
    listed a same = has_flat (λ (r : Entry). in_area a r.1.items) es e k.key has (has_key a e.1.items k here same)

    by : (a : ℕ) → a < 3 → k.area ≡ a → Contains (keys_of (announced_by es) a) k.key
    by zero h same = listed 0 same
    by (suc zero) h same = listed 1 same
    by (suc (suc zero)) h same = listed 2 same
    by (suc (suc (suc a))) h same = absurd (omega arith)

pub got_in : {X : Type 0} (xs : List X) (j : ℕ) (x : X) → slice_get xs j ≡ Some x → Contains xs x
got_in [] j x e = absurd cc
got_in {X} (y ∷ xs) zero x e = let same : y ≡ x = cc in subst (λ (z : X). Contains (z ∷ xs) x) (sym same) (has_here x xs)
got_in (y ∷ xs) (suc j) x e = has_there y xs x (got_in xs j x e)

pub entry_keys : (job : Job) (announced : List (List ℕ)) (es : List Entry) (j : ℕ) (e : Entry) → announced ≡ announced_for job → AreKeys (entries_in job) → entries_in job ≡ es → slice_get es j ≡ Some e
    → All (IsAnnounced announced) e.1.items
entry_keys job announced es j e are keys same at =
    let here : Contains es e = got_in es j e at in
    let good : All IsKey e.1.items = All-contains (λ (r : Entry). All IsKey r.1.items) es e (subst AreKeys same keys) here in
    λ i k lt.
    let one : IsKey (get_or e.1.items i k) = good i k lt in
    subst (λ (a : List (List ℕ)). IsAnnounced a (get_or e.1.items i k)) (sym (are ∙ ap announced_by same))
    (announces es e (get_or e.1.items i k) here (Contains-get_or e.1.items i k lt) one.0)
