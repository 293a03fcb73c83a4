use Rattle.std.proofs.Common.{arith, ◌∙◌, ap, length}
use Rattle.bk_ops.specs.declared.types.Target.TheVariants.{Riscv64}
use Rattle.bk_num.proofs.Bytes.{length-each_bytes}
use Rattle.bk_func.proofs.Arguments.{length-fit}
use Rattle.bk_elf.specs.Records.{ObjectRecord}
use Rattle.bk_rv_isa.proofs.Start.{length-start}
use Rattle.bk_rv_sim.proofs.starting.started.Goals as goal

pub invariant_of-result-clause-pool_fits : goal.invariant_of-result-clause-pool_fits
invariant_of-result-clause-pool_fits c =
    let size = ap length c.in_ok-pool.ensures ∙ length-each_bytes 8 c.deref-2.result.now in
    omega (arith, ap (λ (o : ObjectRecord). length o.pool) c.image.view_is)

pub invariant_of-result-clause-stack_fits : goal.invariant_of-result-clause-stack_fits
invariant_of-result-clause-stack_fits c =
    let size = ap length c.in_ok-stack_bytes.ensures ∙ length-start c.args.stack (length c.args.sig.now.results) c.args.args.now in
    let fits = length-fit Riscv64 c.args.sig.now.args c.args.args.now c.requires.fit in
    rw c.in_ok-sig.ensures (omega arith)
