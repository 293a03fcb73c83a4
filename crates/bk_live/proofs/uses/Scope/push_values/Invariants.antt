use Rattle.std.proofs.Common.{ℕ, map}
use Rattle.std.specs.List.{Contains}
use Rattle.bk_func.specs.Records.{ValueRecord}
use Rattle.bk_live.specs.declared.uses.Use.{Use}
use Rattle.bk_live.specs.Adds.{Adds, Some_before}
use Rattle.bk_live.specs.Homes.{home, place}
use Rattle.bk_live.specs.Uses.{IsUseOf}
use Rattle.bk_live.proofs.uses.Scope.push_values.Given as goal

abbrev pub invariant-loop-value : goal.invariant-loop-value
invariant-loop-value l =
    Adds (Contains l.initial.uses.items)
    (Some_before l.values (λ (k : ℕ) (v : ValueRecord) (u : Use). IsUseOf (map (λ o. o.items) l.self.orders.now) (home l.self.homes) (place l.self.places) l.preds v u) l.value-index)
    (Contains l.uses.items)
