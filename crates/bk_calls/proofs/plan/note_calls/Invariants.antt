use Rattle.std.proofs.Common.{◌≡◌, ℕ, option_map, take}
use Rattle.std.specs.BTreeMap.{get}
use Rattle.std.specs.Option.{option_or}
use Rattle.std.specs.Ordering.{nat_cmp}
use Rattle.bk_calls.specs.Areas.{call_named, result_word}
use Rattle.bk_calls.proofs.plan.note_calls.Given as goal

abbrev pub invariant-loop-value : goal.invariant-loop-value
invariant-loop-value l =
    (n : ℕ) → get nat_cmp l.map n ≡ option_or (get nat_cmp l.initial.map n) (option_map (result_word l.pkg l.target) (call_named (take l.value-index l.values) n))
