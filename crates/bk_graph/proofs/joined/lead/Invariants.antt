use Rattle.std.proofs.Common.{take}
use Rattle.std.specs.List.{All}
use Rattle.bk_graph.specs.Joining.{Leads}
use Rattle.bk_graph.proofs.joined.lead.Given as goal

abbrev pub invariant-loop-succ : goal.invariant-loop-succ
invariant-loop-succ l = All (Leads l.blocks l.from) (take l.succ-index l.succs)
