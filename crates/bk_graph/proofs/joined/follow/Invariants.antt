use Rattle.std.proofs.Common.{take}
use Rattle.std.specs.List.{All}
use Rattle.bk_graph.specs.Joining.{Follows}
use Rattle.bk_graph.proofs.joined.follow.Given as goal

abbrev pub invariant-loop-pred : goal.invariant-loop-pred
invariant-loop-pred l = All (Follows l.blocks l.to) (take l.pred-index l.preds)
