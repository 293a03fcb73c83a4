use Rattle.std.proofs.Common.{◌≡◌, ◌<◌, ◌||◌, ℕ, false, length, take, get_or}
use Rattle.std.specs.List.{list_any}
use Rattle.bk_calls.specs.Arguments.{names}
use Rattle.bk_calls.proofs.arguments.note_names.Given as goal

abbrev pub invariant-loop-value : goal.invariant-loop-value
invariant-loop-value l = record {
  len : length l.named.items ≡ length l.initial.named.items;
  named : (i : ℕ) → i < length l.initial.named.items → get_or l.named.items i false ≡ (get_or l.initial.named.items i false || list_any (names i) (take l.value-index l.values));
}
