-- A package of two functions and a variable.
use Rattle.std.specs.Prelude.{ℕ, [], ◌∷◌}
use Rattle.bk_ops.specs.declared.types.Ty.TheVariants.{Int}
use Rattle.bk_func.specs.Records.{FuncRecord, PackageRecord}

abbrev pub function : ℕ → FuncRecord
function name = record { name = name; sig = record { args = []; results = Int ∷ [] }; blocks = []; given = 0 }

-- functions f and g, and between them a variable v of three bytes, the first of them 7
unfoldable pub small_package : PackageRecord
small_package = record {
  names = (0x66 ∷ []) ∷ (0x76 ∷ []) ∷ (0x67 ∷ []) ∷ [];
  funcs = function 0 ∷ function 2 ∷ [];
  vars = record { name = 1; size = 3; bytes = 7 ∷ [] } ∷ [];
}
