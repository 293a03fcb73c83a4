-- How often lists have a place, and numbers that are counted down.
use Rattle.std.proofs.Common.{◌≡◌, ℕ, ◌+◌, ◌-◌, ◌<◌, ◌≤◌, refl, ap, sym, ◌∙◌, subst, arith, ◌⊎◌, inl, inr, List, [], ◌∷◌, ◌++◌, length, eq-eqb, ne_eqb, get_or, take, drop, append_assoc, append-nil, length-append}
use Rattle.std.specs.Prelude.{slice_index, slice_set, sum_by}
use Rattle.std.specs.List.{Contains, range_with_len}
use Rattle.std.proofs.lemmas.Bool.{cases_eq}
use Rattle.std.proofs.lemmas.List.{take_more, take_all, drop_all, get_or-set_same, get_or-set_other}
use Rattle.std.proofs.lemmas.List.Sums.{sum_by-cons, sum_by_more, sum_by_more_le}
use Rattle.bk_places.specs.Counts.{count_in}
use Rattle.bk_places.proofs.Elements.{to_in, to_contains, in_left, in_right, in_either}
use Rattle.bk_places.proofs.Leaving.{hit}

pub count_more : (y : ℕ) (ts : List ℕ) (i : ℕ) → i < length ts → count_in y (take (i + 1) ts) ≡ count_in y (take i ts) + hit y (get_or ts i 0)
count_more y ts i h = sum_by_more (hit y) ts i 0 h

pub hit_same : (y : ℕ) → hit y y ≡ 1
hit_same y = rw (eq-eqb y y refl) refl

pub hit_other : (y t : ℕ) → ¬ (t ≡ y) → hit y t ≡ 0
hit_other y t n = rw (ne_eqb t y n) refl

-- an edge is there before it is taken off
pub wait_left : (ts waits old : List ℕ) (i : ℕ) → i < length ts → ((y : ℕ) → slice_index waits y + count_in y (take i ts) ≡ slice_index old y) → ((y : ℕ) → count_in y ts ≤ slice_index old y) →
    0 < slice_index waits (get_or ts i 0)
wait_left ts waits old i h c enough =
    let t = get_or ts i 0 in
    let a = c t in
    let b = enough t in
    let l = sum_by_more_le (hit t) ts i 0 h in
    let k = hit_same t in
    omega (arith, a, b, l, k)

-- one edge less leads to a place
pub record Ended (t : ℕ) (waits rest : List ℕ) : Type 0 where
  pub some : 0 < slice_index waits t
  pub here : slice_index rest t ≡ slice_index waits t - 1
  pub other : (y : ℕ) → ¬ (y ≡ t) → slice_index rest y ≡ slice_index waits y

pub ended_one : (t : ℕ) (waits rest : List ℕ) → t < length waits → 0 < slice_index waits t → rest ≡ slice_set waits t (slice_index waits t - 1) → Ended t waits rest
ended_one t waits rest l some e = record {
  some = some;
  here = ap (λ xs. slice_index xs t) e ∙ get_or-set_same waits t (slice_index waits t - 1) 0 l;
  other = λ y n. ap (λ xs. slice_index xs y) e ∙ get_or-set_other waits t y (slice_index waits t - 1) 0 n;
}

pub last_wait : (t : ℕ) (waits rest : List ℕ) → Ended t waits rest → (slice_index waits t ≡ 1 → slice_index rest t ≡ 0) × (slice_index rest t ≡ 0 → slice_index waits t ≡ 1)
last_wait t waits rest u = let s = u.some in let h = u.here in (λ e. omega (arith, h, e), λ e. omega (arith, s, h, e))

pub waits_more : (ts waits rest old : List ℕ) (i : ℕ) → i < length ts → Ended (get_or ts i 0) waits rest → ((y : ℕ) → slice_index waits y + count_in y (take i ts) ≡ slice_index old y) →
    (y : ℕ) → slice_index rest y + count_in y (take (i + 1) ts) ≡ slice_index old y
waits_more ts waits rest old i h u c y = go (cases_eq y (get_or ts i 0))
  where
    go : (y ≡ get_or ts i 0) ⊎ (y ≡ get_or ts i 0 → ⊥) → slice_index rest y + count_in y (take (i + 1) ts) ≡ slice_index old y
    go (inl e) =
        let P : ℕ → Type 0 = λ x. slice_index rest x + count_in x (take (i + 1) ts) ≡ slice_index old x in
        let t = get_or ts i 0 in
        let a = c t in
        let m = count_more t ts i h in
        let k = hit_same t in
        let s = u.some in
        let r = u.here in
        subst P (sym e) (omega (arith, a, m, k, s, r))
    go (inr n) =
        let a = c y in
        let m = count_more y ts i h in
        let k = hit_other y (get_or ts i 0) (λ q. n (sym q)) in
        let r = u.other y n in
        omega (arith, a, m, k, r)

-- the first so many places, with one more
pub take_before : (x i : ℕ) (ts : List ℕ) → i < length ts → Contains (take i ts) x → Contains (take (i + 1) ts) x
take_before x i ts h c =
    let P : List ℕ → Type 0 = λ ys. Contains ys x in
    subst P (sym (take_more ts i 0 h)) (to_contains x (take i ts ++ get_or ts i 0 ∷ []) (in_left x (take i ts) (get_or ts i 0 ∷ []) (to_in x (take i ts) c)))

pub take_here : (x i : ℕ) (ts : List ℕ) → i < length ts → x ≡ get_or ts i 0 → Contains (take (i + 1) ts) x
take_here x i ts h e =
    let P : List ℕ → Type 0 = λ ys. Contains ys x in
    subst P (sym (take_more ts i 0 h)) (to_contains x (take i ts ++ get_or ts i 0 ∷ []) (in_right x (take i ts) (get_or ts i 0 ∷ []) (inl (sym e))))

pub before_taken : (x i : ℕ) (ts : List ℕ) → i < length ts → Contains (take (i + 1) ts) x → ¬ (x ≡ get_or ts i 0) → Contains (take i ts) x
before_taken x i ts h c m =
    let P : List ℕ → Type 0 = λ ys. Contains ys x in
    elim (in_either x (take i ts) (get_or ts i 0 ∷ []) (to_in x (take i ts ++ get_or ts i 0 ∷ []) (subst P (take_more ts i 0 h) c))) as (λ _. Contains (take i ts) x) [
      | inl j ↦ to_contains x (take i ts) j
      | inr j ↦ elim j as (λ _. Contains (take i ts) x) [ inl e ↦ absurd (m (sym e)) | inr k ↦ elim k [ ] ]
    ]

get_middle : (pre : List (List ℕ)) (t : List ℕ) (ts : List (List ℕ)) → get_or (pre ++ t ∷ ts) (length pre) [] ≡ t
get_middle [] t ts = refl
get_middle (p ∷ pre) t ts = get_middle pre t ts

-- the sum over places is that over the list
pub sum_range : (g : List ℕ → ℕ) (pre ts : List (List ℕ)) (a : ℕ) → length pre ≡ a → sum_by (λ x. g (get_or (pre ++ ts) x [])) (range_with_len a (length ts)) ≡ sum_by g ts
sum_range g pre [] a e = refl
sum_range g pre (t ∷ ts) a e =
    let s = sum_by-cons (λ (x : ℕ). g (get_or (pre ++ t ∷ ts) x [])) a (range_with_len (a + 1) (length ts)) in
    let k = sum_by-cons g t ts in
    let l : length (pre ++ t ∷ []) ≡ a + 1 = (let q = length-append pre (t ∷ []) in omega (arith, q, e)) in
    let r = sum_range g (pre ++ t ∷ []) ts (a + 1) l in
    let P : List (List ℕ) → Type 0 = λ zs. sum_by (λ x. g (get_or zs x [])) (range_with_len (a + 1) (length ts)) ≡ sum_by g ts in
    let rest = subst P (append_assoc pre (t ∷ []) ts) r in
    let h : g (get_or (pre ++ t ∷ ts) a []) ≡ g t = ap (λ k. g (get_or (pre ++ t ∷ ts) k [])) (sym e) ∙ ap g (get_middle pre t ts) in
    omega (arith, s, k, rest, h)

-- a list that is put over another
pub with_same : (n : ℕ) (new old : List ℕ) → length new ≡ length old → length old ≡ n → take n (new ++ drop (length new) old) ≡ new
with_same n new old e l =
    ap (λ xs. take n (new ++ xs)) (drop_all (length new) old (omega (arith, e))) ∙ ap (take n) (append-nil new) ∙ take_all n new (omega (arith, e, l))

-- what is not longer than none is empty
pub no_keys : {A : Type 0} (ks : List A) → ¬ (0 < length ks) → ks ≡ []
no_keys [] n = refl
no_keys (k ∷ ks) n = absurd (n (omega arith))
