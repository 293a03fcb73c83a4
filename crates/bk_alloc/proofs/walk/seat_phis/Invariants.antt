-- the phis so far are in registers
use Rattle.std.proofs.Common.{◌≡◌, map, take}
use Rattle.std.specs.List.{fold}
use Rattle.bk_alloc.specs.Blocks.{with_phi}
use Rattle.bk_alloc.proofs.walk.seat_phis.Given as goal

abbrev pub invariant-loop-phi : goal.invariant-loop-phi
invariant-loop-phi l = l.registers ≡ fold with_phi l.initial.registers (map (λ p. p.value) (take l.phi-index l.phis))
