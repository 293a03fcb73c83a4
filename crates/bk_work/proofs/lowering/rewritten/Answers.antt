use Rattle.bk_work.specs.Refused.{IsUnsettled}
use Rattle.bk_work.specs.Stops.{stop_of}
use Rattle.bk_work.proofs.Steps.{refused_rewrite, stopped}
use Rattle.bk_work.proofs.lowering.rewritten.Goals as goal

pub returns-clause-settled : goal.returns-clause-settled
returns-clause-settled c = c.in_ok-rewrite_by.ensures.settled c.in_ok-ask_numbers.ensures.numbers

pub returns-in_err-rewrite_by-clause-cause : goal.returns-in_err-rewrite_by-clause-cause
returns-in_err-rewrite_by-clause-cause c =
    let own = c.in_ok-ask_numbers.ensures.numbers in
    stopped (IsUnsettled c.args.target c.args.rules.now c.args.func) c.from_residual-in_err-rewrite_by.result (stop_of c.in_err-rewrite_by.field-0.0) c.from_residual-in_err-rewrite_by.ensures.1
    (refused_rewrite c.args.target c.args.rules.now c.args.func c.in_err-rewrite_by.field-0.0 c.in_err-rewrite_by.ensures.refused (c.in_err-rewrite_by.ensures.passes own)
    (c.in_err-rewrite_by.ensures.grown own))
