-- the steps so far
use Rattle.std.proofs.Common.{◌≡◌, ◌++◌, map, take}
use Rattle.bk_func.specs.Records.{move}
use Rattle.bk_func.specs.Steps.{seen_step}
use Rattle.bk_alloc.proofs.steps.push_moves.Given as goal

abbrev pub invariant-loop-pair : goal.invariant-loop-pair
invariant-loop-pair l = map seen_step l.steps.items ≡ map seen_step l.initial.steps.items ++ map (λ m. move m.0 m.1) (take l.pair-index l.pair-items)
