-- The blocks of a function after one of them was changed.
use Rattle.std.proofs.Common.{◌≡◌, ℕ, zero, suc, refl, ap, sym, ◌∙◌, ◌⊎◌, inl, inr, List, [], ◌∷◌, Some, Bool, true, false, cond, ◌==◌}
use Rattle.std.specs.Prelude.{slice_get, slice_set, find}
use Rattle.bk_func.specs.Records.{BlockRecord}
use Rattle.bk_func.specs.Meaning.{entry_id}

-- the block with a number, before and after
pub find_changed : (bs : List BlockRecord) (b : ℕ) (x y : BlockRecord) (id : ℕ) → slice_get bs b ≡ Some x → y.id ≡ x.id →
    (find (λ c. c.id == id) bs ≡ find (λ c. c.id == id) (slice_set bs b y)) ⊎ ((find (λ c. c.id == id) bs ≡ Some x) × (find (λ c. c.id == id) (slice_set bs b y) ≡ Some y))
find_changed [] b x y id e s = absurd cc
find_changed (z ∷ zs) zero x y id e s =
    let d : z ≡ x = cc in
    go (z.id == id) (y.id == id) (ap (λ n. n == id) (ap (λ (c : BlockRecord). c.id) d ∙ sym s)) d
  where
    go : (t u : Bool) → t ≡ u → z ≡ x → (cond t (Some z) (find (λ c. c.id == id) zs) ≡ cond u (Some y) (find (λ c. c.id == id) zs)) ⊎ ((cond t (Some z) (find (λ c. c.id == id) zs) ≡ Some x) × (cond u (Some y) (find (λ c. c.id == id) zs) ≡ Some y))
    go true true q d = inr (ap Some d, refl)
    go true false q d = absurd cc
    go false true q d = absurd cc
    go false false q d = inl refl
find_changed (z ∷ zs) (suc b) x y id e s = go (z.id == id) (find_changed zs b x y id e s)
  where
    go : (t : Bool) → (find (λ c. c.id == id) zs ≡ find (λ c. c.id == id) (slice_set zs b y)) ⊎ ((find (λ c. c.id == id) zs ≡ Some x) × (find (λ c. c.id == id) (slice_set zs b y) ≡ Some y)) →
        (cond t (Some z) (find (λ c. c.id == id) zs) ≡ cond t (Some z) (find (λ c. c.id == id) (slice_set zs b y))) ⊎
        ((cond t (Some z) (find (λ c. c.id == id) zs) ≡ Some x) × (cond t (Some z) (find (λ c. c.id == id) (slice_set zs b y)) ≡ Some y))
    go true h = inl refl
    go false h = h

pub entry_changed : (bs : List BlockRecord) (b : ℕ) (x y : BlockRecord) → slice_get bs b ≡ Some x → y.id ≡ x.id → entry_id bs ≡ entry_id (slice_set bs b y)
entry_changed [] b x y e s = refl
entry_changed (z ∷ zs) zero x y e s = (let d : z ≡ x = cc in ap (λ (c : BlockRecord). c.id) d ∙ sym s)
entry_changed (z ∷ zs) (suc b) x y e s = refl
