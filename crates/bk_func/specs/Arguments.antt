-- Numbers for the arguments of a signature.
use Rattle.std.specs.Prelude.{ℕ, ◌^◌, Bool, true, false, nat_lt, ◌&&◌, List, [], ◌∷◌}
use Rattle.bk_ops.specs.Types.{width_of}
use Rattle.bk_ops.specs.declared.types.Target.{Target}
use Rattle.bk_ops.specs.declared.types.Ty.{Ty}

-- there is a number for each type, and it is below 2 to the width of the type
abbrev pub fit : Target → List Ty → List ℕ → Bool
fit t [] [] = true
fit t [] (n ∷ ns) = false
fit t (ty ∷ tys) [] = false
fit t (ty ∷ tys) (n ∷ ns) = nat_lt n (2 ^ width_of ty t) && fit t tys ns
