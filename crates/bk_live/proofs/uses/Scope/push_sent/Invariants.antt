use Rattle.std.proofs.Common.{◌≡◌, ℕ, Some, map}
use Rattle.std.specs.List.{Contains, slice_get}
use Rattle.std.specs.Option.{option_and_then}
use Rattle.bk_live.specs.declared.uses.Use.{Use}
use Rattle.bk_live.specs.Adds.{Adds, Some_before}
use Rattle.bk_live.specs.Homes.{place}
use Rattle.bk_live.specs.Uses.{end_behind}
use Rattle.bk_live.proofs.uses.Scope.push_sent.Given as goal

abbrev pub invariant-loop-index : goal.invariant-loop-index
invariant-loop-index l =
    Adds (Contains l.initial.uses.items)
    (Some_before l.args
    (λ (k n : ℕ) (u : Use). (option_and_then (end_behind (map (λ o. o.items) l.self.orders.now) (place l.self.places)) (slice_get l.preds k) ≡ Some u.spot) × (u.value ≡ n))
    l.index) (Contains l.uses.items)
