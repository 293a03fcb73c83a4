use Rattle.bk_func.specs.Records.{ValueRecord}
use Rattle.bk_func.specs.Form.Before.{Precedes}
use Rattle.bk_form.proofs.Finding.{HoldsUpTo}
use Rattle.bk_form.proofs.rounds.round_in.Given as goal

abbrev pub invariant-loop-value : goal.invariant-loop-value
invariant-loop-value l = HoldsUpTo (λ (v : ValueRecord). ¬ Precedes l.flow.scope.func.now l.block v v) l.block.values l.value-index
