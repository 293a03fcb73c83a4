use Rattle.bk_func.specs.Form.{Holds}
use Rattle.bk_func.specs.Form.Parts.{HasRange}
use Rattle.bk_func.specs.Records.{BlockRecord, ValueRecord}
use Rattle.bk_ops.specs.Table.{info_of}
use Rattle.bk_form.specs.Names.{measure}
use Rattle.bk_form.proofs.Finding.{HoldsUpTo}
use Rattle.bk_form.proofs.width.fault_with.Given as goal

abbrev pub invariant-loop-block : goal.invariant-loop-block
invariant-loop-block l =
    HoldsUpTo (Holds (λ (b : BlockRecord). Unit {0}) (λ (b : BlockRecord) (v : ValueRecord). HasRange (measure l.scope) l.scope.func.now v (info_of v.op).aux)) l.scope.func.now.blocks l.block-index
