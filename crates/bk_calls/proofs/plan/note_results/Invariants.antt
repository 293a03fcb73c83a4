use Rattle.std.proofs.Common.{◌≡◌, ℕ, option_map, take}
use Rattle.std.specs.BTreeMap.{get}
use Rattle.std.specs.Option.{option_or}
use Rattle.bk_calls.specs.Areas.{result_named}
use Rattle.bk_calls.specs.Plans.{pair_cmp}
use Rattle.bk_calls.proofs.plan.note_results.Given as goal

abbrev pub invariant-loop-value : goal.invariant-loop-value
invariant-loop-value l =
    (k : ℕ × ℕ) → get pair_cmp l.map k
    ≡ option_or (get pair_cmp l.initial.map k) (option_map (λ v. v.id) (result_named l.registers (take l.value-index l.values) k))
