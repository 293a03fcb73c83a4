-- the steps so far
use Rattle.std.proofs.Common.{◌≡◌, ◌++◌, map, take}
use Rattle.std.specs.List.{flat_map}
use Rattle.bk_func.specs.Steps.{seen_step}
use Rattle.bk_alloc.specs.Names.{number_in}
use Rattle.bk_alloc.specs.Placing.{steps_of}
use Rattle.bk_alloc.specs.Seen.{seen}
use Rattle.bk_alloc.proofs.steps.push_acts.Given as goal

abbrev pub invariant-loop-act : goal.invariant-loop-act
invariant-loop-act l = map seen_step l.steps.items ≡ map seen_step l.initial.steps.items ++ flat_map (steps_of (number_in l.names) l.names.homes) (seen (take l.act-index l.acts))
