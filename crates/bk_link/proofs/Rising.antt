-- Numbers each of which is below the next.
use Rattle.std.proofs.Common.{◌≡◌, sym, subst, ℕ, ◌+◌, ◌-◌, ◌<◌, ◌≤◌, List, ⊎_elim, arith}
use Rattle.std.specs.Prelude.{slice_index}
use Rattle.std.proofs.lemmas.Bool.{cases_eq}

-- one more number that is above the one before it
pub rises_more : (ns : List ℕ) (i : ℕ) → 1 ≤ i → ((k : ℕ) → k + 1 < i → slice_index ns k < slice_index ns (k + 1)) → slice_index ns (i - 1) < slice_index ns i
    → (k : ℕ) → k + 1 < i + 1 → slice_index ns k < slice_index ns (k + 1)
rises_more ns i some before here k l = ⊎_elim
    (λ (same : k + 1 ≡ i).
    let one : k ≡ i - 1 = omega (arith, same) in
    subst (λ n. slice_index ns n < slice_index ns (k + 1)) (sym one) (subst (λ n. slice_index ns (i - 1) < slice_index ns n) (sym same) here))
    (λ (other : k + 1 ≡ i → ⊥). before k (omega (arith, l, other)))
    (cases_eq (k + 1) i)
