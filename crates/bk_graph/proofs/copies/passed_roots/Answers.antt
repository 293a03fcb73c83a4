use Rattle.std.proofs.Common.{◌∙◌}
use Rattle.bk_graph.specs.Settling.{tables}
use Rattle.bk_graph.proofs.Passing.{passed_none}
use Rattle.bk_graph.proofs.copies.passed_roots.Goals as goal

pub loop-place-init : goal.loop-place-init
loop-place-init c =
    passed_none (tables c.args.graph.now) c.in_ok-roots.roots (c.in_ok-roots.ensures.size ∙ c.len.ensures ∙ c.args.graph.now.nodes.ok.0) c.in_ok-roots.ensures.own
