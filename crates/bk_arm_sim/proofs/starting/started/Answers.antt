use Rattle.std.proofs.Common.{arith, ◌∙◌, ap, length}
use Rattle.bk_num.proofs.Bytes.{length-each_bytes}
use Rattle.bk_elf.specs.Records.{ObjectRecord}
use Rattle.bk_arm_sim.proofs.Begun.{length-stack}
use Rattle.bk_arm_sim.proofs.starting.started.Goals as goal

pub invariant_of-result-clause-registers_fit : goal.invariant_of-result-clause-registers_fit
invariant_of-result-clause-registers_fit c = c.in_ok-regs.ensures.fit

pub invariant_of-result-clause-pool_fits : goal.invariant_of-result-clause-pool_fits
invariant_of-result-clause-pool_fits c =
    let size = ap length c.in_ok-pool.ensures ∙ length-each_bytes 8 c.deref-2.result.now in
    omega (arith, ap (λ (o : ObjectRecord). length o.pool) c.image.view_is)

pub invariant_of-result-clause-stack_fits : goal.invariant_of-result-clause-stack_fits
invariant_of-result-clause-stack_fits c =
    let size = ap length c.in_ok-stack_bytes.ensures ∙ length-stack c.args.sig.now c.args.args.now c.args.stack c.requires.fit in
    rw c.in_ok-sig.ensures (omega arith)
