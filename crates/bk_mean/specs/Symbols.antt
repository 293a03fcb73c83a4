-- What the names of a package stand for.
use Rattle.std.specs.Prelude.{◌≡◌, ℕ, ◌+◌, ◌==◌, if◌then◌else◌, List, [], ◌∷◌, position, Option, Some, None}
use Rattle.std.specs.Ordering.{nat_cmp}
use Rattle.std.specs.BTreeMap.{get}
use Rattle.bk_num.specs.Memory.{data_base}
use Rattle.bk_func.specs.Records.{VarRecord, PackageRecord}
use Rattle.bk_func.specs.Numbers.{rounded}
use Rattle.bk_func.specs.Symbols.{panic_divide, panic_shift}
use Rattle.bk_mean.specs.declared.symbols.Callee.{Callee}
use Rattle.bk_mean.specs.declared.symbols.Callee.TheVariants.{Func, PanicDivide, PanicShift, Missing}
use Rattle.bk_mean.specs.declared.symbols.Symbols.{Symbols}

-- what a call of the name calls
abbrev pub callee_found : Option ℕ → Callee
callee_found None = Missing
callee_found (Some i) = Func i

abbrev pub callee_of : PackageRecord → ℕ → Callee
callee_of p s =
    if s == panic_divide then PanicDivide else (if s == panic_shift then PanicShift else callee_found (position (λ g. g.name == s) p.funcs))

-- where variables begin that stand from an address on, and last where one after all would
abbrev pub starts_from : List VarRecord → ℕ → List ℕ
starts_from [] n = n ∷ []
starts_from (x ∷ xs) n = n ∷ starts_from xs (rounded (n + x.size))

-- the functions of the package and the starts of its variables, by the numbers of their names
pub record IsNaming (p : PackageRecord) (s : Symbols) : Type 0 where
  pub funcs : (n : ℕ) → get nat_cmp s.funcs n ≡ position (λ g. g.name == n) p.funcs
  pub vars : (n : ℕ) → get nat_cmp s.vars n ≡ position (λ x. x.name == n) p.vars
  pub starts : s.starts.items ≡ starts_from p.vars data_base
