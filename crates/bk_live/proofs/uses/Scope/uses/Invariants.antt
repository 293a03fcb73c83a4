use Rattle.std.proofs.Common.{ℕ, [], map}
use Rattle.std.specs.List.{Contains}
use Rattle.bk_func.specs.Records.{BlockRecord}
use Rattle.bk_live.specs.declared.uses.Use.{Use}
use Rattle.bk_live.specs.Adds.{Adds, Some_before}
use Rattle.bk_live.specs.Homes.{home, place}
use Rattle.bk_live.specs.Uses.{IsUseIn}
use Rattle.bk_live.proofs.uses.Scope.uses.Given as goal

abbrev pub invariant-loop-at : goal.invariant-loop-at
invariant-loop-at l =
    Adds (Contains {X = Use} [])
    (Some_before l.func.blocks (λ (k : ℕ) (b : BlockRecord) (u : Use). IsUseIn (map (λ o. o.items) l.self.orders.now) (home l.self.homes) (place l.self.places) k b u) l.at)
    (Contains l.uses.items)
