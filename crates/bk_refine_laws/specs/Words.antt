-- What rules over machine words ask of values and of trees.
use Rattle.std.specs.Prelude.{ℕ, ◌≡◌, ◌<◌, true, false, List, Some}
use Rattle.bk_num.specs.Memory.{data_base}
use Rattle.bk_ops.specs.declared.table.Op.{Op}
use Rattle.bk_ops.specs.declared.table.Class.TheVariants.{Void}
use Rattle.bk_ops.specs.declared.family.Family.{Family}
use Rattle.bk_ops.specs.declared.family.Family.TheVariants as op
use Rattle.bk_ops.specs.Table.{row, is_op}
use Rattle.bk_func.specs.declared.parts.Aux.{Aux}
use Rattle.bk_func.specs.declared.parts.Aux.TheVariants as beside
use Rattle.bk_func.specs.Records.{ValueRecord, FuncRecord}
use Rattle.bk_func.specs.Numbers.{Program, Env, value_of, origin_of, address, computed, address_of, place_of_var}
use Rattle.bk_func.specs.Effects.{is_phi}
use Rattle.bk_func.specs.Symbols.{symbol_of}
use Rattle.bk_func.proofs.Faults.{In}
use Rattle.bk_refine_laws.specs.Possible.{MayBe}
use Rattle.bk_rule.specs.declared.trees.Build.{Build, Row_of-Build, end_of-Build, more_of-Build}
use Rattle.bk_rule.specs.declared.trees.Build as build
use Rattle.bk_rule.specs.WordSound.{Setting, Keeps}

-- what trees stand in, where the variables are those of the package
abbrev pub setting_of : Program → (ℕ → List ℕ) → Setting
setting_of p d = record { address = λ s. place_of_var s p.pkg.vars data_base; windows = d }

-- the kind of what stands beside an op
abbrev pub HasAux : Family → Aux → Type 0
HasAux op.Store (beside.Ty x) = Unit {0}
HasAux op.Store _ = ⊥
HasAux op.Arg (beside.Arg k) = Unit {0}
HasAux op.Arg _ = ⊥
HasAux _ (beside.Sym s) = Unit {0}
HasAux _ beside.Nothing = Unit {0}
HasAux _ _ = ⊥

-- what stands beside the ops is as their rows say, and an address names a symbol
pub record IsWell (p : Program) (v : ValueRecord) : Type 0 where
  pub int : Keeps (row v.op.family v.op.a v.op.b).info.aux v.op v.int
  pub aux : HasAux v.op.family v.aux
  pub symbol : origin_of v.op.family ≡ address → address_of p.pkg v.aux ≡ place_of_var (symbol_of v.aux) p.pkg.vars data_base

abbrev pub AreWell : Program → FuncRecord → Type 0
AreWell p f = (id : ℕ) (v : ValueRecord) → value_of f id ≡ Some v → IsWell p v

-- an op of a right tree that has a value by itself
pub record Builds (o : Op) : Type 0 where
  pub known : is_op o.family o.a o.b ≡ true
  pub origin : origin_of o.family ≡ computed
  pub class : (row o.family o.a o.b).info.result ≡ Void → ⊥

abbrev mutual
  pub BuildsValues : Build → Type 0
  BuildsValues (build.Var i) = Unit {0}
  BuildsValues (build.Node' o ty int x shape bs) = Builds o × BuildEach bs

  pub BuildEach : {m : _} → Row_of-Build m → Type 0
  BuildEach end_of-Build = Unit {0}
  BuildEach (more_of-Build b bs) = BuildsValues b × BuildEach bs

-- the live values have ranks: what a value takes is live and ranks below it, phis aside
pub record Falls (f : FuncRecord) (live : ℕ → Type 0) (rank : ℕ → ℕ) : Type 0 where
  pub falls : (id : ℕ) (v : ValueRecord) → live id → value_of f id ≡ Some v → is_phi (origin_of v.op.family) ≡ false → (x : ℕ) → In x v.args → live x × (rank x < rank id)

-- m gives each live value that ranks below n a number that it may have
abbrev pub PossibleBelow : Program → FuncRecord → Env → (ℕ → ℕ) → (ℕ → Type 0) → (ℕ → ℕ) → ℕ → Type 0
PossibleBelow p f e m live rank n = (id : ℕ) (v : ValueRecord) → value_of f id ≡ Some v → live id → rank id < n → MayBe (origin_of v.op.family) p f e m v (m id)
