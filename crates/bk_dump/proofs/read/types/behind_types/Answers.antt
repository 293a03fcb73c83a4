use Rattle.std.proofs.Common.{sym, ◌∙◌, ap}
use Rattle.bk_dump.specs.Types.{next_type_at}
use Rattle.bk_dump.proofs.Every.{every_none, every_some}
use Rattle.bk_dump.proofs.Shrinking.{next_type_shrinks}
use Rattle.bk_dump.proofs.read.types.behind_types.Goals as goal

pub loop-ty-smaller : goal.loop-ty-smaller
loop-ty-smaller c = next_type_shrinks.by c.loop-ty.rest.now c.in-Some._ty c.in-Some.next.now (sym c.in-Some.ensures)

pub loop-ty-preserved : goal.loop-ty-preserved
loop-ty-preserved c = sym (ap (λ x. x.1) (every_some next_type_at next_type_shrinks c.loop-ty.rest.now c.in-Some._ty c.in-Some.next.now (sym c.in-Some.ensures))) ∙ c.loop-ty.invariant

pub returns : goal.returns
returns c = sym (ap (λ x. x.1) (every_none next_type_at c.loop-ty.rest.now (sym c.in_default.ensures))) ∙ c.loop-ty.invariant
