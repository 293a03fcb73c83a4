use Rattle.std.proofs.Common.{arith}
use Rattle.std.specs.BTreeSet.{contains}
use Rattle.std.specs.Ordering.{nat_cmp}
use Rattle.bk_alloc.specs.Placement.{is_word_named}
use Rattle.bk_alloc.proofs.Growing.{any_more}
use Rattle.bk_alloc.proofs.plan.add_words.Goals as goal

pub loop-value-preserved : goal.loop-value-preserved
loop-value-preserved c = λ n.
    any_more (is_word_named n) c.args.values.now c.loop-value.value-index c.value-item.result (contains nat_cmp c.args.words.now n) (contains nat_cmp c.loop-value.words n)
    (contains nat_cmp c.add_word.new.words n) (omega arith) c.value-item.is (c.loop-value.invariant n) (c.in_ok-add_word.ensures n)
