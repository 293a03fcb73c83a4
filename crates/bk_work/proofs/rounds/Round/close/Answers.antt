use Rattle.std.proofs.Common.{◌%◌, ◌^◌, length}
use Rattle.bk_core.proofs.Keeps.{each_below}
use Rattle.bk_share.specs.Passes.{view, parts_in}
use Rattle.bk_work.proofs.rounds.Round.close.Goals as goal

pub returns-clause-once : goal.returns-clause-once
returns-clause-once c = λ le n past has x lt.
    let v = view c.args.pass in
    each_below (parts_in c.args.self.share) (length v.numbers % 2 ^ 64) (length c.args.self.order.now) n v c.close.ensures.rule.rule.counted le past has x lt

pub returns-clause-held : goal.returns-clause-held
returns-clause-held c = λ x h. (c.close.ensures.rule.rule.right 0 x h).is
