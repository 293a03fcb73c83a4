use Rattle.bk_work.specs.Refused.{IsUnsettled}
use Rattle.bk_work.proofs.Steps.{stopped}
use Rattle.bk_work.proofs.lowering.settled.Goals as goal

pub returns-clause-settled : goal.returns-clause-settled
returns-clause-settled c = record { last = c.in_ok-last.last; settled = c.in_ok-last.ensures.settled; cleaned = c.in_ok-cleaned.ensures }

pub returns-in_err-last-clause-cause : goal.returns-in_err-last-clause-cause
returns-in_err-last-clause-cause c =
    stopped (IsUnsettled c.args.target c.args.rules.now c.args.func) c.from_residual.result c.in_err-last.field-0.0 c.from_residual.ensures.1 c.in_err-last.ensures.cause
