use Rattle.std.proofs.Common.{sym, ◌∙◌, ap}
use Rattle.std.specs.Prelude.{fold}
use Rattle.bk_dump.specs.Front.{every}
use Rattle.bk_dump.specs.Words.{group_at}
use Rattle.bk_dump.specs.Blocks.{marked}
use Rattle.bk_dump.proofs.Every.{every_none, every_some}
use Rattle.bk_dump.proofs.Shrinking.{group_shrinks}
use Rattle.bk_dump.proofs.read.end.marked_groups.Goals as goal

pub loop-inside-smaller : goal.loop-inside-smaller
loop-inside-smaller c = group_shrinks.by c.loop-inside.rest.now c.in-Some.inside.now c.in-Some.next.now (sym c.in-Some.ensures)

pub loop-inside-preserved : goal.loop-inside-preserved
loop-inside-preserved c =
    let more = every_some group_at group_shrinks c.loop-inside.rest.now c.in-Some.inside.now c.in-Some.next.now (sym c.in-Some.ensures) in
    record {
      mark = ap (λ l. fold marked l (every group_at c.in-Some.next.now).0) c.marked-likely.ensures ∙ sym (ap (λ x. fold marked c.loop-inside.likely x.0) more) ∙ c.loop-inside.invariant.mark;
      left = sym (ap (λ x. x.1) more) ∙ c.loop-inside.invariant.left;
    }

pub returns : goal.returns
returns c =
    let none = every_none group_at c.loop-inside.rest.now (sym c.in_default.ensures) in
    record {
      mark = sym (ap (λ x. fold marked c.loop-inside.likely x.0) none) ∙ c.loop-inside.invariant.mark;
      rest = sym (ap (λ x. x.1) none) ∙ c.loop-inside.invariant.left;
    }
