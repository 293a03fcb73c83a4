use Rattle.std.proofs.Common.{sym, ◌∙◌}
use Rattle.bk_dump.specs.Words.{next_number_at}
use Rattle.bk_dump.proofs.Every.{loop_ends, loop_goes_on}
use Rattle.bk_dump.proofs.Shrinking.{next_number_shrinks}
use Rattle.bk_dump.proofs.read.number.few_numbers.Goals as goal

pub loop-number-smaller : goal.loop-number-smaller
loop-number-smaller c = (next_number_shrinks c.args.letter.now).by c.loop-number.rest.now c.in-Some-next_numbered.number c.in-Some-next_numbered.next.now (sym c.in-Some-next_numbered.ensures)

pub loop-number-preserved : goal.loop-number-preserved
loop-number-preserved c =
    loop_goes_on (next_number_at c.args.letter.now) (next_number_shrinks c.args.letter.now) c.loop-number.numbers.items c.push-in-Some-next_numbered.new.self.items c.loop-number.rest.now c.in-Some-next_numbered.number c.in-Some-next_numbered.next.now c.in_ok-push-2.ensures.ok (sym c.in-Some-next_numbered.ensures)
    ∙ c.loop-number.invariant

pub returns : goal.returns
returns c = sym (loop_ends (next_number_at c.args.letter.now) c.loop-number.numbers.items c.loop-number.rest.now (sym c.in_default-next_numbered.ensures)) ∙ c.loop-number.invariant
