use Rattle.std.proofs.Common.{◌≡◌, ℕ, option_map, take, flat_map}
use Rattle.std.specs.BTreeMap.{get}
use Rattle.bk_calls.specs.Areas.{result_named}
use Rattle.bk_calls.specs.Plans.{pair_cmp}
use Rattle.bk_calls.proofs.plan.first_results.Given as goal

abbrev pub invariant-loop-block : goal.invariant-loop-block
invariant-loop-block l =
    (k : ℕ × ℕ) → get pair_cmp l.firsts k ≡ option_map (λ v. v.id) (result_named l.registers (flat_map (λ b. b.values) (take l.block-index l.blocks)) k)
