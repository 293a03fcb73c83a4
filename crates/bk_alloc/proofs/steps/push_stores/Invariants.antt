-- the steps so far
use Rattle.std.proofs.Common.{◌≡◌, ◌++◌, map, take}
use Rattle.std.specs.List.{flat_map}
use Rattle.bk_func.specs.Steps.{seen_step}
use Rattle.bk_alloc.specs.Names.{number_in}
use Rattle.bk_alloc.specs.Placing.{phi_store}
use Rattle.bk_alloc.proofs.steps.push_stores.Given as goal

abbrev pub invariant-loop-phi : goal.invariant-loop-phi
invariant-loop-phi l =
    map seen_step l.steps.items ≡ map seen_step l.initial.steps.items ++ flat_map (λ x. phi_store (number_in l.names) l.names.homes l.first x.value) (take l.phi-index l.phis)
