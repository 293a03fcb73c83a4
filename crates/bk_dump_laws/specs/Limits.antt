-- Declarations that keep the limits of a text, with names and numbers of their own.
use Rattle.std.specs.Prelude.{◌≡◌, ◌≢◌, ◌≤◌, ◌+◌, ℕ, false, List, [], ◌∷◌, length, All, IfSome, Ok}
use Rattle.std.specs.List.{AllPairs}
use Rattle.bk_func.specs.Records.{PackageRecord}
use Rattle.bk_func.specs.Limits.{most_functions, most_variables, most_values, most_blocks, most_in_signature, most_window}
use Rattle.bk_dump.specs.Trees.{ValueTree, HeaderTree, BlockTree}
use Rattle.bk_dump.specs.Drafts.{is_reserved, next_window, parameter_names}
use Rattle.bk_dump_laws.specs.Naming.{Differ}
use Rattle.bk_dump.specs.Resolved.{package_of}
use Rattle.bk_dump_laws.specs.Declarations.{Declaration, variable, function, value_ids, block_ids, names_of_all, funcs_from, vars_from, SpellsAll}

-- values and blocks have numbers from 1 to 2^31 - 1
abbrev pub IsNumber : ℕ → Type 0
IsNumber n = (1 ≤ n) × (n ≤ 2147483647)

abbrev pub AreNumbers : List ℕ → Type 0
AreNumbers ns = All IsNumber ns

abbrev pub AreDistinct : List ℕ → Type 0
AreDistinct ns = AllPairs (λ a b. a ≢ b) ns

pub record HasNumbers (b : BlockTree) : Type 0 where
  pub id : IsNumber b.label.id
  pub preds : AreNumbers b.label.preds
  pub values : All (λ (v : ValueTree). IsNumber v.id × AreNumbers v.args) b.values
  pub control : IfSome b.end.control IsNumber
  pub succs : AreNumbers b.end.succs

-- a function of at most 64 arguments and results, 16,384 values and 4,096 blocks
pub record KeepsFunction (h : HeaderTree) (bs : List BlockTree) : Type 0 where
  pub places : length h.parameters + length h.results ≤ most_in_signature
  pub parameters : Differ (parameter_names h)
  pub few_values : length (value_ids bs) ≤ most_values
  pub few_blocks : length bs ≤ most_blocks
  pub values : AreDistinct (value_ids bs)
  pub blocks : AreDistinct (block_ids bs)
  pub numbers : All HasNumbers bs

abbrev pub Keeps : Declaration → Type 0
Keeps (variable v) = Unit {0}
Keeps (function h bs) = KeepsFunction h bs

-- how many functions and variables are declared
abbrev pub func_count : List Declaration → ℕ
func_count [] = 0
func_count ((variable v) ∷ ds) = func_count ds
func_count ((function h bs) ∷ ds) = 1 + func_count ds

abbrev pub var_count : List Declaration → ℕ
var_count [] = 0
var_count ((variable v) ∷ ds) = 1 + var_count ds
var_count ((function h bs) ∷ ds) = var_count ds

-- the variables end within 1 MiB of data, the first standing at this place
abbrev pub KeepsWindow : ℕ → List Declaration → Type 0
KeepsWindow place [] = Unit {0}
KeepsWindow place ((variable v) ∷ ds) = (place + v.size ≤ most_window) × KeepsWindow (next_window place v.size) ds
KeepsWindow place ((function h bs) ∷ ds) = KeepsWindow place ds

-- at most 4,096 functions and 4,096 variables, each with a name of its own, which is not that of a callee that panics
pub record KeepsLimits (ds : List Declaration) : Type 0 where
  pub few_funcs : func_count ds ≤ most_functions
  pub few_vars : var_count ds ≤ most_variables
  pub differ : Differ (names_of_all ds)
  pub free : All (λ n. is_reserved n ≡ false) (names_of_all ds)
  pub window : KeepsWindow 0 ds
  pub each : All Keeps ds

-- the text spells these declarations, which keep the limits, and the package is what they declare
pub record SpellsPackage (text : List ℕ) (ds : List Declaration) (p : PackageRecord) : Type 0 where
  pub spelled : SpellsAll text ds
  pub limits : KeepsLimits ds
  pub found : package_of (names_of_all ds) (funcs_from 0 ds) (vars_from 0 ds) ≡ Ok p
