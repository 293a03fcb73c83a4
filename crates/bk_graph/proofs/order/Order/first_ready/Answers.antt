use Rattle.std.proofs.Common.{◌∙◌}
use Rattle.bk_graph.proofs.Following.{least_ready}
use Rattle.bk_graph.proofs.order.Order.first_ready.Goals as goal

pub returns : goal.returns
returns c =
    let o = c.args.self.now in
    c.copied.ensures ∙ least_ready o.func.now o.numbers.items o.ready c.first.result c.requires.ready c.first.ensures.variant c.first.ensures.member c.first.ensures.least
