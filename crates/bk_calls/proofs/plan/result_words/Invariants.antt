use Rattle.std.proofs.Common.{◌≡◌, ℕ, option_map, take, flat_map}
use Rattle.std.specs.BTreeMap.{get}
use Rattle.std.specs.Ordering.{nat_cmp}
use Rattle.bk_calls.specs.Areas.{call_named, result_word}
use Rattle.bk_calls.proofs.plan.result_words.Given as goal

abbrev pub invariant-loop-block : goal.invariant-loop-block
invariant-loop-block l =
    (n : ℕ) → get nat_cmp l.words n ≡ option_map (result_word l.pkg l.target) (call_named (flat_map (λ b. b.values) (take l.block-index l.blocks)) n)
