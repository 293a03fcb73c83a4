use Rattle.std.proofs.Common.{◌≡◌, ℕ, option_map, take, flat_map}
use Rattle.std.specs.BTreeMap.{get}
use Rattle.std.specs.Ordering.{nat_cmp}
use Rattle.bk_calls.specs.Areas.{end_named}
use Rattle.bk_calls.specs.Chains.{last}
use Rattle.bk_calls.proofs.plan.ends.Given as goal

abbrev pub invariant-loop-block : goal.invariant-loop-block
invariant-loop-block l = (n : ℕ) → get nat_cmp l.ends n ≡ option_map (λ v. last v.args) (end_named (flat_map (λ b. b.values) (take l.block-index l.blocks)) n)
