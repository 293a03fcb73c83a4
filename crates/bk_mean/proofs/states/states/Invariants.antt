use Rattle.std.proofs.Common.{◌≡◌, ◌+◌, ◌-◌, ◌++◌}
use Rattle.std.specs.Prelude.{option_map}
use Rattle.std.specs.Ordering.{nat_cmp}
use Rattle.std.specs.BTreeMap.{get}
use Rattle.bk_mean.specs.Memories.{walked}
use Rattle.bk_mean.proofs.states.states.Given as goal

abbrev pub invariant-loop : goal.invariant-loop
invariant-loop l =
    l.states.items ++ walked (λ s. option_map (λ k. l.first + k) (get nat_cmp l.next s)) (l.count + 1 - l.counter) l.state ≡ walked (λ s. option_map (λ k. l.first + k) (get nat_cmp l.next s)) (l.count + 1) l.fn.beginning
