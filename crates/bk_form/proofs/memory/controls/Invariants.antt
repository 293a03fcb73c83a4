use Rattle.std.proofs.Common.{◌≡◌, ℕ, Option, None, Some}
use Rattle.std.specs.List.{slice_get}
use Rattle.std.specs.Option.{option_and_then}
use Rattle.bk_func.specs.Records.{BlockRecord}
use Rattle.bk_places.proofs.Filling.{Filled}
use Rattle.bk_form.specs.Numbers.{value_ids, sole}
use Rattle.bk_form.proofs.memory.controls.Given as goal

abbrev pub invariant-loop-block : goal.invariant-loop-block
invariant-loop-block l =
    Filled (λ (j : ℕ) (o : Option ℕ). (b : BlockRecord) → slice_get l.flow.scope.func.now.blocks j ≡ Some b → o ≡ option_and_then (λ n. sole (value_ids l.flow.scope.func.now) n) b.control)
    None l.controls.items l.block-index
