use Rattle.bk_work.specs.Refused.{IsRefused}
use Rattle.bk_work.proofs.Steps.{all_made, frame_fails, lowering_fails, stopped}
use Rattle.bk_work.proofs.outcomes.made.Goals as goal

pub returns-in_err-lowered-clause-cause : goal.returns-in_err-lowered-clause-cause
returns-in_err-lowered-clause-cause c =
    stopped (IsRefused c.args.pkg.now c.args.target c.args.lists.now.rules c.args.func.now) c.from_residual.result c.in_err-lowered.field-0.0 c.from_residual.ensures.1
    (lowering_fails c.args.pkg.now c.args.target c.args.lists.now.rules c.args.func.now c.in_err-lowered.field-0.0 c.in_err-lowered.ensures.cause)

pub returns : goal.returns
returns c = record {
  made = all_made c.args.pkg.now c.args.target c.args.lists.now.rules c.args.func.now c.in_ok-lowered.lowered c.in_frame.result c.in_ok-lowered.ensures.lowered c.in_frame.ensures.framed;
  cause = frame_fails c.args.pkg.now c.args.target c.args.lists.now.rules c.args.func.now c.in_ok-lowered.lowered c.in_frame.result c.in_ok-lowered.ensures.lowered c.in_frame.ensures.cause;
}
