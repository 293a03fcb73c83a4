use Rattle.std.proofs.Common.{sym, ◌∙◌}
use Rattle.bk_dump.specs.Headers.{next_parameter_at}
use Rattle.bk_dump.proofs.Every.{loop_ends, loop_goes_on}
use Rattle.bk_dump.proofs.Shrinking.{next_parameter_shrinks}
use Rattle.bk_dump.proofs.read.header.more_parameters.Goals as goal

pub loop-found-smaller : goal.loop-found-smaller
loop-found-smaller c = next_parameter_shrinks.by c.loop-found.rest.now c.in-Some.found c.in-Some.next.now (sym c.in-Some.ensures)

pub loop-found-preserved : goal.loop-found-preserved
loop-found-preserved c =
    loop_goes_on next_parameter_at next_parameter_shrinks c.loop-found.parameters.items c.push-in-Some.new.self.items c.loop-found.rest.now c.in-Some.found c.in-Some.next.now c.in_ok-push-2.ensures.items (sym c.in-Some.ensures)
    ∙ c.loop-found.invariant

pub returns : goal.returns
returns c = sym (loop_ends next_parameter_at c.loop-found.parameters.items c.loop-found.rest.now (sym c.in_default.ensures)) ∙ c.loop-found.invariant
