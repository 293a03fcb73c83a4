use Rattle.std.proofs.Common.{arith}
use Rattle.std.specs.BTreeSet.{contains}
use Rattle.std.specs.Ordering.{nat_cmp}
use Rattle.bk_alloc.proofs.Growing.{filter_more}
use Rattle.bk_alloc.proofs.plan.words_among.Goals as goal

pub loop-number-preserved : goal.loop-number-preserved
loop-number-preserved c =
    filter_more (contains nat_cmp c.args.words.now) c.args.numbers.now c.loop-number.number-index 0 c.loop-number.list.items c.push_word.new.list.items (omega arith) c.loop-number.invariant
    c.in_ok-push_word.ensures
