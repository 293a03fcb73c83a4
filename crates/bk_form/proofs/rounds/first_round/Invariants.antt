use Rattle.bk_func.specs.Records.{BlockRecord, ValueRecord}
use Rattle.bk_func.specs.Form.{Holds}
use Rattle.bk_func.specs.Form.Before.{Precedes}
use Rattle.bk_form.proofs.Finding.{HoldsUpTo}
use Rattle.bk_form.proofs.rounds.first_round.Given as goal

abbrev pub invariant-loop-block : goal.invariant-loop-block
invariant-loop-block l =
    HoldsUpTo (Holds (λ (b : BlockRecord). Unit {0}) (λ (b : BlockRecord) (v : ValueRecord). ¬ Precedes l.flow.scope.func.now b v v)) l.flow.scope.func.now.blocks l.block-index
