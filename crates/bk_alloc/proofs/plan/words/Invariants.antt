-- the words of the blocks so far
use Rattle.std.proofs.Common.{◌≡◌, ℕ, take}
use Rattle.std.specs.BTreeSet.{contains}
use Rattle.std.specs.Ordering.{nat_cmp}
use Rattle.bk_alloc.specs.Placement.{is_word}
use Rattle.bk_alloc.proofs.plan.words.Given as goal

abbrev pub invariant-loop-block : goal.invariant-loop-block
invariant-loop-block l = (n : ℕ) → contains nat_cmp l.words n ≡ is_word (take l.block-index l.blocks) n
