use Rattle.std.proofs.Common.{◌≡◌, ℕ, Some}
use Rattle.std.specs.List.{Contains}
use Rattle.bk_live.specs.declared.uses.Use.{Use}
use Rattle.bk_live.specs.Adds.{Adds, Some_before}
use Rattle.bk_live.proofs.uses.push_taken.Given as goal

abbrev pub invariant-loop-arg : goal.invariant-loop-arg
invariant-loop-arg l =
    Adds (Contains l.initial.uses.items) (Some_before l.args (λ (k n : ℕ) (u : Use). (l.spot ≡ Some u.spot) × (u.value ≡ n)) l.arg-index) (Contains l.uses.items)
