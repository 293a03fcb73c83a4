use Rattle.std.proofs.Common.{◌≡◌, ◌<◌, ℕ, false, length, take, get_or}
use Rattle.bk_calls.specs.Arguments.{is_named}
use Rattle.bk_calls.proofs.arguments.named_places.Given as goal

abbrev pub invariant-loop-block : goal.invariant-loop-block
invariant-loop-block l = record {
  len : length l.named.items ≡ l.count;
  named : (i : ℕ) → i < l.count → get_or l.named.items i false ≡ is_named (take l.block-index l.blocks) i;
}
