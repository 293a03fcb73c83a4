use Rattle.std.proofs.Common.{◌≡◌, ◌++◌, take}
use Rattle.bk_mean.specs.Left.{phi_numbers}
use Rattle.bk_mean.proofs.turn.take_phis.Given as goal

abbrev pub invariant-loop-phi : goal.invariant-loop-phi
invariant-loop-phi l = l.list.items ≡ l.initial.list.items ++ phi_numbers l.first l.values l.numbers l.edge (take l.phi-index l.phis)
