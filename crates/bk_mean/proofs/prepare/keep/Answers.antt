use Rattle.bk_mean.proofs.Results.{kept_at}
use Rattle.bk_mean.proofs.prepare.keep.Goals as goal

pub returns-in_ok-push-clause-kept : goal.returns-in_ok-push-clause-kept
returns-in_ok-push-clause-kept c = kept_at (λ v. v.items) c.args.kept.now c.args.call c.index-kept-call.result c.push.new.self c.args.one c.if-call-kept.true c.in_ok-push.ensures.items
