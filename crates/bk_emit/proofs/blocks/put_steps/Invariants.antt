use Rattle.std.proofs.Common.{◌≡◌, ◌++◌, map, drop}
use Rattle.std.specs.List.{flat_map}
use Rattle.bk_func.specs.Steps.{seen_step}
use Rattle.bk_emit.specs.Code.{step_lines}
use Rattle.bk_emit.specs.Tables.{look}
use Rattle.bk_emit.proofs.blocks.put_steps.Given as goal

abbrev pub invariant-loop-step : goal.invariant-loop-step
invariant-loop-step g l =
    l.lines.items ++ flat_map (step_lines g.M.Machine.forms l.frame (look l.entries)) (map seen_step (drop l.step-index l.steps)) ≡ l.initial.lines.items ++ flat_map (step_lines g.M.Machine.forms l.frame (look l.entries)) (map seen_step l.steps)
