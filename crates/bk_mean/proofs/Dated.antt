-- When the values of a block are due, as it is put together.
use Rattle.std.proofs.Common.{◌≡◌, ℕ, zero, suc, ◌+◌, ◌-◌, ◌<◌, ◌≤◌, ◌==◌, refl, ap, sym, ◌∙◌, arith, ◌⊎◌, inl, inr, List, [], ◌∷◌, ◌++◌, length, map, append_assoc, append-nil, Option, Some, None, get_or}
use Rattle.std.specs.Prelude.{if◌then◌else◌, position, slice_get, option_map, option_and_then}
use Rattle.std.specs.List.{last_or}
use Rattle.std.proofs.lemmas.Bool.{cases_eq}
use Rattle.bk_ops.specs.Table.{info_of}
use Rattle.bk_func.specs.Records.{ValueRecord}
use Rattle.bk_func.specs.Numbers.{memory_arg}
use Rattle.bk_mean.specs.declared.role.Origin.{Origin}
use Rattle.bk_mean.specs.declared.role.Origin.TheVariants as rust
use Rattle.bk_mean.specs.declared.arrange.Due.{Due}
use Rattle.bk_mean.specs.declared.numbering.Numbering.{Numbering}
use Rattle.bk_mean.specs.Seen.{seen_origin}
use Rattle.bk_mean.specs.Arranged.{class_of, level_in, due_by}
use Rattle.bk_mean.specs.Dues.{seen_at, due_in}
use Rattle.bk_mean.specs.Memories.{state_place, walked, followed_by, next_place, states_of, place_due}
use Rattle.bk_mean.proofs.Firsts.{position-map}
use Rattle.bk_places.proofs.Positions.{get_or_got}
use Rattle.bk_mean.proofs.Standing.{got_right}

-- an op that gives no result names memory by its last argument
pub last_names : (r : Origin) (v : ValueRecord) (x : Option ℕ) → (r ≡ rust.Result → ⊥) → x ≡ (if (info_of v.op).memory then last_or None v.args else None) → x ≡ memory_arg (seen_origin r) v
last_names rust.Phi v x n e = e
last_names rust.Argument v x n e = e
last_names rust.ArgumentWord v x n e = e
last_names rust.Result v x n e = absurd (n refl)
last_names rust.Address v x n e = e
last_names rust.Loaded v x n e = e
last_names rust.Checked v x n e = e
last_names rust.Same v x n e = e
last_names rust.Computed v x n e = e

-- walks by the same steps
pub walked_same : (g h : ℕ → Option ℕ) → ((s : ℕ) → g s ≡ h s) → (k : ℕ) (o : Option ℕ) → walked g k o ≡ walked h k o
walked_same g h e zero o = refl
walked_same g h e (suc k) None = refl
walked_same g h e (suc k) (Some s) = ap (λ ys. s ∷ ys) (ap (walked g k) (e s) ∙ walked_same g h e k (h s))

-- one more step
pub walked_more : (g : ℕ → Option ℕ) (n i s : ℕ) (list new all : List ℕ) (next : Option ℕ) → i < n → new ≡ list ++ s ∷ [] → next ≡ g s → list ++ walked g (n - i) (Some s) ≡ all → new ++ walked g (n - (i + 1)) next ≡ all
walked_more g n i s list new all next l a b e =
    let d : n - i ≡ suc (n - (i + 1)) = omega (arith, l) in
    ap (λ xs. xs ++ walked g (n - (i + 1)) next) a ∙ append_assoc list (s ∷ []) (walked g (n - (i + 1)) next)
    ∙ ap (λ o. list ++ s ∷ walked g (n - (i + 1)) o) b ∙ ap (λ k. list ++ walked g k (Some s)) (sym d) ∙ e

-- one more due
pub due_push : (dues : List (Option Due)) (x : Option Due) (k : ℕ) → (k < length dues → due_in (dues ++ x ∷ []) k ≡ due_in dues k) × (k ≡ length dues → due_in (dues ++ x ∷ []) k ≡ seen_at (Some x))
due_push dues x k = (before, λ e. ap seen_at (got_right dues (x ∷ []) 0 k (omega (arith, e))))
  where
    before : k < length dues → due_in (dues ++ x ∷ []) k ≡ due_in dues k
    before l = go dues k l
      where
        go : (ds : List (Option Due)) (j : ℕ) → j < length ds → due_in (ds ++ x ∷ []) j ≡ due_in ds j
        go [] j l = absurd (omega (arith, l))
        go (d ∷ ds) zero l = refl
        go (d ∷ ds) (suc j) l = go ds j (omega (arith, l))

pub due_more : (n : Numbering) (first : ℕ) (vs : List ValueRecord) (i : ℕ) (v : ValueRecord) (dues new : List (Option Due)) (x : Option Due) → i < length vs → v ≡ get_or vs i v → length dues ≡ i → new ≡ dues ++ x ∷ [] →
    seen_at (Some x) ≡ place_due n first vs i v → ((k : ℕ) (u : ValueRecord) → k < i → slice_get vs k ≡ Some u → due_in dues k ≡ place_due n first vs k u) →
    (k : ℕ) (u : ValueRecord) → k < i + 1 → slice_get vs k ≡ Some u → due_in new k ≡ place_due n first vs k u
due_more n first vs i v dues new x l e size a here before k u m g = ap (λ ds. due_in ds k) a ∙ go (cases_eq k i)
  where
    go : (k ≡ i) ⊎ (k ≡ i → ⊥) → due_in (dues ++ x ∷ []) k ≡ place_due n first vs k u
    go (inl d) =
        let w : v ≡ u = e ∙ ap (λ j. get_or vs j v) (sym d) ∙ get_or_got vs k u v g in
        (due_push dues x k).1 (d ∙ sym size) ∙ here ∙ ap (λ j. place_due n first vs j v) (sym d) ∙ ap (place_due n first vs k) w
    go (inr d) = (due_push dues x k).0 (omega (arith, m, d, size)) ∙ before k u (omega (arith, m, d)) g

-- a value is due by the levels of the states
pub due_by_levels : (n : Numbering) (first : ℕ) (vs : List ValueRecord) (k : ℕ) (v : ValueRecord) (level : ℕ → Option ℕ) → ((s : ℕ) → level s ≡ position (λ x. x == s) (states_of n first vs)) →
    due_by (class_of v) (option_and_then level (state_place n v)) k ≡ place_due n first vs k v
due_by_levels n first vs k v level h = ap (λ o. due_by (class_of v) o k) (go (state_place n v))
  where
    go : (o : Option ℕ) → option_and_then level o ≡ level_in (states_of n first vs) o
    go None = refl
    go (Some s) = h s

-- the places of the memory values at states
pub next_places : (n : Numbering) (first : ℕ) (vs : List ValueRecord) (at : ℕ → Option ℕ) (list : List ℕ) → ((s : ℕ) → at s ≡ position (λ x. x == s) list) → list ≡ map (followed_by n) vs →
    (s : ℕ) → option_map (λ k. first + k) (at s) ≡ next_place n first vs s
next_places n first vs at list h e s = ap (option_map (λ k. first + k)) (h s ∙ ap (position (λ x. x == s)) e ∙ position-map (followed_by n) s vs)

-- the walk ends where no step is left, or none leads on
pub walked_end : (g : ℕ → Option ℕ) (n i : ℕ) (list all : List ℕ) (o : Option ℕ) → n ≤ i → list ++ walked g (n - i) o ≡ all → list ≡ all
walked_end g n i list all o l e =
    let d : n - i ≡ 0 = omega (arith, l) in
    sym (append-nil list) ∙ ap (λ k. list ++ walked g k o) (sym d) ∙ e

pub walked_stop : (g : ℕ → Option ℕ) (k : ℕ) (list all : List ℕ) (o : Option ℕ) → o ≡ None → list ++ walked g k o ≡ all → list ≡ all
walked_stop g k list all o n e = sym (append-nil list) ∙ ap (λ xs. list ++ xs) (sym (none k)) ∙ ap (λ x. list ++ walked g k x) (sym n) ∙ e
  where
    none : (k : ℕ) → walked g k None ≡ []
    none zero = refl
    none (suc k) = refl

-- the last argument
pub last_is : (xs : List ℕ) → slice_get xs (length xs - 1) ≡ last_or None xs
last_is [] = refl
last_is (x ∷ xs) = let d : length (x ∷ xs) - 1 ≡ length xs = omega arith in ap (slice_get (x ∷ xs)) d ∙ go x xs
  where
    go : (x : ℕ) (xs : List ℕ) → slice_get (x ∷ xs) (length xs) ≡ last_or (Some x) xs
    go x [] = refl
    go x (y ∷ ys) = go y ys
