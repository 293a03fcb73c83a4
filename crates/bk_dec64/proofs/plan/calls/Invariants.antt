use Rattle.std.proofs.Common.{◌≡◌, ℕ, option_map, take, flat_map}
use Rattle.std.specs.BTreeMap.{get}
use Rattle.std.specs.Ordering.{nat_cmp}
use Rattle.bk_dec64.specs.Signatures.{call_named}
use Rattle.bk_dec64.proofs.plan.calls.Given as goal

abbrev pub invariant-loop-block : goal.invariant-loop-block
invariant-loop-block l = (n : ℕ) → get nat_cmp l.calls n ≡ option_map (λ v. v.aux) (call_named (flat_map (λ b. b.values) (take l.block-index l.blocks)) n)
