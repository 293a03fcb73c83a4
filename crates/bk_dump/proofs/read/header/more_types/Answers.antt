use Rattle.std.proofs.Common.{sym, ◌∙◌}
use Rattle.bk_dump.specs.Types.{next_type_at}
use Rattle.bk_dump.proofs.Every.{loop_ends, loop_goes_on}
use Rattle.bk_dump.proofs.Shrinking.{next_type_shrinks}
use Rattle.bk_dump.proofs.read.header.more_types.Goals as goal

pub loop-ty-smaller : goal.loop-ty-smaller
loop-ty-smaller c = next_type_shrinks.by c.loop-ty.rest.now c.in-Some.ty c.in-Some.next.now (sym c.in-Some.ensures)

pub loop-ty-preserved : goal.loop-ty-preserved
loop-ty-preserved c =
    loop_goes_on next_type_at next_type_shrinks c.loop-ty.types.items c.push-in-Some.new.self.items c.loop-ty.rest.now c.in-Some.ty c.in-Some.next.now c.in_ok-push-2.ensures.items (sym c.in-Some.ensures)
    ∙ c.loop-ty.invariant

pub returns : goal.returns
returns c = sym (loop_ends next_type_at c.loop-ty.types.items c.loop-ty.rest.now (sym c.in_default.ensures)) ∙ c.loop-ty.invariant
