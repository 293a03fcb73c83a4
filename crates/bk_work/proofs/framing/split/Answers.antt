use Rattle.std.proofs.Common.{◌∙◌, ap}
use Rattle.bk_graph.specs.Critical.{without_critical}
use Rattle.bk_work.proofs.framing.split.Goals as goal

pub returns : goal.returns
returns c = c.in_ok-split_critical.ensures.ok ∙ ap without_critical c.in_ok-split.ensures
