use Rattle.std.proofs.Common.{◌≡◌}
use Rattle.bk_ops.specs.declared.family.Family.TheVariants.{InitMem}
use Rattle.bk_func.specs.Records.{ValueRecord}
use Rattle.bk_form.proofs.Finding.{HoldsUpTo}
use Rattle.bk_form.proofs.naming.init_in.Given as goal

abbrev pub invariant-loop-value : goal.invariant-loop-value
invariant-loop-value l = HoldsUpTo (λ (v : ValueRecord). ¬ (v.op.family ≡ InitMem)) l.block.values l.value-index
