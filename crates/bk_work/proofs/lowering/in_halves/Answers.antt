use Rattle.bk_work.specs.Refused.{IsUnhalved}
use Rattle.bk_work.proofs.Steps.{in_halves, stopped, unhalved_room, unhalved_rules}
use Rattle.bk_work.proofs.lowering.in_halves.Goals as goal

pub returns-in_err-apart-clause-cause : goal.returns-in_err-apart-clause-cause
returns-in_err-apart-clause-cause c =
    stopped (IsUnhalved c.args.pkg.now c.args.rules.now c.args.func) c.from_residual.result c.in_err-apart.field-0.0 c.from_residual.ensures.1
    (unhalved_room c.args.pkg.now c.args.rules.now c.args.func c.in_err-apart.field-0.0 c.in_err-apart.ensures.cause)

pub returns : goal.returns
returns c = record {
  halves = in_halves c.args.pkg.now c.args.rules.now c.args.func c.in_ok-apart.apart c.settled.result c.in_ok-apart.ensures.apart c.settled.ensures.settled;
  cause = unhalved_rules c.args.pkg.now c.args.rules.now c.args.func c.in_ok-apart.apart c.settled.result c.in_ok-apart.ensures.apart c.settled.ensures.cause;
}
