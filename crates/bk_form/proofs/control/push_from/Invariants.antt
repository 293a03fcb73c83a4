use Rattle.std.proofs.Common.{◌≡◌, ◌++◌, map, take}
use Rattle.bk_form.proofs.control.push_from.Given as goal

abbrev pub invariant-loop-succ : goal.invariant-loop-succ
invariant-loop-succ l = l.edges.items ≡ l.initial.edges.items ++ map (λ s. (l.block.id, s)) (take l.succ-index l.block.succs)
