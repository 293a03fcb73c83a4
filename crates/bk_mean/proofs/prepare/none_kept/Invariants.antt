use Rattle.std.proofs.Common.{◌≡◌, ℕ, length, map, get_or, []}
use Rattle.bk_mean.proofs.prepare.none_kept.Given as goal

abbrev pub invariant-loop : goal.invariant-loop
invariant-loop l = record { size : length l.kept.items ≡ l.counter; none : (k : ℕ) → get_or (map (λ v. v.items) l.kept.items) k [] ≡ [] }
