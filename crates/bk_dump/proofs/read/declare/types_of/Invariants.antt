use Rattle.std.proofs.Common.{◌≡◌, map, take}
use Rattle.bk_dump.proofs.read.declare.types_of.Given as goal

abbrev pub invariant-loop-parameter : goal.invariant-loop-parameter
invariant-loop-parameter l = l.types.items ≡ map (λ p. p.ty) (take l.parameter-index l.parameters)
