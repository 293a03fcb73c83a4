use Rattle.std.proofs.Common.{◌≡◌, ◌++◌, map, take}
use Rattle.bk_form.proofs.control.push_to.Given as goal

abbrev pub invariant-loop-pred : goal.invariant-loop-pred
invariant-loop-pred l = l.edges.items ≡ l.initial.edges.items ++ map (λ p. (p, l.block.id)) (take l.pred-index l.block.preds)
