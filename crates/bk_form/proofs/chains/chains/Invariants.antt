use Rattle.std.proofs.Common.{◌≡◌, ℕ, Some}
use Rattle.std.specs.List.{slice_get}
use Rattle.bk_func.specs.Records.{BlockRecord}
use Rattle.bk_places.proofs.Filling.{Filled}
use Rattle.bk_form.specs.Chains.{IsChainOf}
use Rattle.bk_form.specs.declared.chains.Chain.{Chain}
use Rattle.bk_form.specs.declared.chains.Chain.TheVariants.{Empty}
use Rattle.bk_form.proofs.chains.chains.Given as goal

abbrev pub invariant-loop-at : goal.invariant-loop-at
invariant-loop-at l =
    Filled (λ (i : ℕ) (c : Chain). (b : BlockRecord) → slice_get l.flow.scope.func.now.blocks i ≡ Some b → IsChainOf l.flow.scope.func.now b c) Empty l.chains.items l.at
