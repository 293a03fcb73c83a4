use Rattle.std.proofs.Common.{◌∙◌, arith}
use Rattle.bk_graph.proofs.Trees.{tree_own, roots_own, roots_length}
use Rattle.bk_graph.proofs.roots.Roots.new.Goals as goal

pub invariant_of-result : goal.invariant_of-result
invariant_of-result c = tree_own c.loop-place.above.items c.loop-place.invariant.own

pub returns-clause-size : goal.returns-clause-size
returns-clause-size c = roots_length c.loop-place.above.items ∙ c.loop-place.invariant.size ∙ omega arith

pub returns-clause-own : goal.returns-clause-own
returns-clause-own c = roots_own c.loop-place.above.items c.loop-place.invariant.own
