use Rattle.bk_func.specs.Form.{Holds}
use Rattle.bk_func.specs.Form.Shapes.{HasControlType, HasTypes}
use Rattle.bk_func.specs.Records.{BlockRecord, ValueRecord}
use Rattle.bk_form.specs.Names.{measure}
use Rattle.bk_form.proofs.Finding.{HoldsUpTo}
use Rattle.bk_form.proofs.types.fault_with.Given as goal

abbrev pub invariant-loop-block : goal.invariant-loop-block
invariant-loop-block l =
    HoldsUpTo (Holds (HasControlType (measure l.scope) l.scope.func.now) (λ (b : BlockRecord) (v : ValueRecord). HasTypes (measure l.scope) l.scope.func.now v)) l.scope.func.now.blocks l.block-index
