-- The functions of a package by what stands beside calls.
use Rattle.std.specs.Prelude.{◌≡◌, ℕ, ◌<◌, ◌==◌, ◌||◌, nat_lt, if◌then◌else◌, length, position, Option, None, slice_index_or}
use Rattle.std.specs.List.{find}
use Rattle.bk_func.specs.declared.parts.Aux.{Aux}
use Rattle.bk_func.specs.declared.parts.Aux.TheVariants as beside
use Rattle.bk_func.specs.Records.{FuncRecord, PackageRecord}
use Rattle.bk_func.specs.Symbols.{panic_divide, panic_shift}
use Rattle.bk_callees.specs.declared.callees.Callees.{Callees}

-- of a package, for each name the place of the first function that has it
pub record AreCallees (p : PackageRecord) (c : Callees) : Type 0 where
  pub count : length c.firsts.items ≡ length p.names
  pub first : (s : ℕ) → s < length p.names → slice_index_or c.firsts.items s None ≡ position (λ f. f.name == s) p.funcs

-- the first function that has a name of the package
abbrev pub func_named : PackageRecord → ℕ → Option FuncRecord
func_named p s = if nat_lt s (length p.names) then find (λ g. g.name == s) p.funcs else None

-- the function that a call names, unless it panics
abbrev pub callee_of : PackageRecord → Aux → Option FuncRecord
callee_of p (beside.Sym s) = if s == panic_divide || s == panic_shift then None else func_named p s
callee_of p _ = None
