-- Numbers that are put in their places all at once.
use Rattle.std.proofs.Common.{◌≡◌, ℕ, zero, suc, ◌+◌, ◌<◌, ◌≢◌, refl, ap, ◌∙◌, subst, arith, ◌⊎◌, inl, inr, List, [], ◌∷◌, length, map, Some, Bool, true, false}
use Rattle.std.specs.Prelude.{slice_get, slice_index, slice_set, if◌then◌else◌}
use Rattle.std.proofs.Math.ListN.{length-set}
use Rattle.std.proofs.lemmas.Bool.{cases_eq}
use Rattle.std.proofs.lemmas.List.{get_or-set_same, get_or-set_other}
use Rattle.bk_func.specs.Records.{ValueRecord}
use Rattle.bk_func.specs.Numbers.{origin_of}
use Rattle.bk_func.specs.Effects.{is_phi}
use Rattle.bk_func.proofs.Faults.{In}
use Rattle.bk_mean.specs.Left.{put_all}
use Rattle.bk_mean.specs.Ready.{phis_from}

pub put_length : (first : ℕ) (ks ns numbers : List ℕ) → length (put_all first ks ns numbers) ≡ length numbers
put_length first [] ns numbers = refl
put_length first (k ∷ ks) [] numbers = refl
put_length first (k ∷ ks) (n ∷ ns) numbers = put_length first ks ns (slice_set numbers (first + k) n) ∙ length-set numbers (first + k) n

pub put_other : (first : ℕ) (ks ns numbers : List ℕ) (x : ℕ) → ((k : ℕ) → In k ks → x ≢ first + k) → slice_index (put_all first ks ns numbers) x ≡ slice_index numbers x
put_other first [] ns numbers x h = refl
put_other first (k ∷ ks) [] numbers x h = refl
put_other first (k ∷ ks) (n ∷ ns) numbers x h =
    put_other first ks ns (slice_set numbers (first + k) n) x (λ j i. h j (inr i)) ∙ get_or-set_other numbers (first + k) x n 0 (h k (inl refl))

-- a place that is written has its number
pub put_own : (first : ℕ) (h : ℕ → ℕ) (ks numbers : List ℕ) (k : ℕ) → In k ks ⊎ (slice_index numbers (first + k) ≡ h k) → first + k < length numbers → slice_index (put_all first ks (map h ks) numbers) (first + k) ≡ h k
put_own first h [] numbers k (inl i) l = elim i [ ]
put_own first h [] numbers k (inr e) l = e
put_own first h (j ∷ ks) numbers k q l =
    put_own first h ks (slice_set numbers (first + j) (h j)) k (go (cases_eq j k) q) (let e = length-set numbers (first + j) (h j) in omega (arith, l, e))
  where
    go : (j ≡ k) ⊎ (j ≡ k → ⊥) → In k (j ∷ ks) ⊎ (slice_index numbers (first + k) ≡ h k) → In k ks ⊎ (slice_index (slice_set numbers (first + j) (h j)) (first + k) ≡ h k)
    go (inl e) q =
        let P : ℕ → Type 0 = λ x. slice_index (slice_set numbers (first + j) (h j)) (first + x) ≡ h x in
        inr (subst P e (get_or-set_same numbers (first + j) (h j) 0 (omega (arith, l, e))))
    go (inr n) (inl (inl e)) = absurd (n e)
    go (inr n) (inl (inr i)) = inl i
    go (inr n) (inr e) = inr (get_or-set_other numbers (first + j) (first + k) (h j) 0 (λ z. n (omega (arith, z))) ∙ e)

-- the phis of a block, by their places
pub phi_listed : (n : ℕ) (vs : List ValueRecord) (k : ℕ) (u : ValueRecord) → slice_get vs k ≡ Some u → is_phi (origin_of u.op.family) ≡ true → In (n + k) (phis_from n vs)
phi_listed n [] k u e q = absurd cc
phi_listed n (v ∷ vs) zero u e q =
    let d : v ≡ u = cc in
    let t : is_phi (origin_of v.op.family) ≡ true = ap (λ (z : ValueRecord). is_phi (origin_of z.op.family)) d ∙ q in
    let z : n ≡ n + 0 = omega arith in
    rw t (inl z)
phi_listed n (v ∷ vs) (suc k) u e q = go (is_phi (origin_of v.op.family)) (let P : ℕ → Type 0 = λ x. In x (phis_from (n + 1) vs) in let z : (n + 1) + k ≡ n + suc k = omega arith in subst P z (phi_listed (n + 1) vs k u e q))
  where
    go : (t : Bool) → In (n + suc k) (phis_from (n + 1) vs) → In (n + suc k) (if t then n ∷ phis_from (n + 1) vs else phis_from (n + 1) vs)
    go true i = inr i
    go false i = i

pub listed_phi : (n : ℕ) (vs : List ValueRecord) (x : ℕ) → In x (phis_from n vs) → (k : ℕ) × (u : ValueRecord) × (x ≡ n + k) × (slice_get vs k ≡ Some u) × (is_phi (origin_of u.op.family) ≡ true)
listed_phi n [] x i = elim i [ ]
listed_phi n (v ∷ vs) x i = go (is_phi (origin_of v.op.family)) refl i (λ j. listed_phi (n + 1) vs x j)
  where
    later : (k : ℕ) × (u : ValueRecord) × (x ≡ n + 1 + k) × (slice_get vs k ≡ Some u) × (is_phi (origin_of u.op.family) ≡ true) →
        (k : ℕ) × (u : ValueRecord) × (x ≡ n + k) × (slice_get (v ∷ vs) k ≡ Some u) × (is_phi (origin_of u.op.family) ≡ true)
    later (k, u, e, g, q) = (suc k, u, omega (arith, e), g, q)

    go : (t : Bool) → is_phi (origin_of v.op.family) ≡ t → In x (if t then n ∷ phis_from (n + 1) vs else phis_from (n + 1) vs) →
        (In x (phis_from (n + 1) vs) → (k : ℕ) × (u : ValueRecord) × (x ≡ n + 1 + k) × (slice_get vs k ≡ Some u) × (is_phi (origin_of u.op.family) ≡ true)) →
        (k : ℕ) × (u : ValueRecord) × (x ≡ n + k) × (slice_get (v ∷ vs) k ≡ Some u) × (is_phi (origin_of u.op.family) ≡ true)
    go true e (inl d) rest = (0, v, omega (arith, d), refl, e)
    go true e (inr j) rest = later (rest j)
    go false e j rest = later (rest j)
