-- A package that was read: its names may stand in an object.
use Rattle.std.proofs.Common.{ℕ, ◌+◌, ◌≤◌, List, [], ◌∷◌, length, arith}
use Rattle.std.specs.Prelude.{sum_by}
use Rattle.std.proofs.lemmas.List.Sums.{sum_by-cons}

pub shorter : (names : List (List ℕ)) → sum_by (λ n. length n) names ≤ sum_by (λ n. length n + 1) names
shorter [] = omega arith
shorter (n ∷ ns) = omega (arith, shorter ns, sum_by-cons (λ (m : List ℕ). length m) n ns, sum_by-cons (λ (m : List ℕ). length m + 1) n ns)
