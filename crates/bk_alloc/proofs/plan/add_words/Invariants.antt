-- the words of the values so far are added
use Rattle.std.proofs.Common.{◌≡◌, ℕ, ◌||◌, take}
use Rattle.std.specs.BTreeSet.{contains}
use Rattle.std.specs.List.{list_any}
use Rattle.std.specs.Ordering.{nat_cmp}
use Rattle.bk_alloc.specs.Placement.{is_word_named}
use Rattle.bk_alloc.proofs.plan.add_words.Given as goal

abbrev pub invariant-loop-value : goal.invariant-loop-value
invariant-loop-value l = (n : ℕ) → contains nat_cmp l.words n ≡ (contains nat_cmp l.initial.words n || list_any (is_word_named n) (take l.value-index l.values))
