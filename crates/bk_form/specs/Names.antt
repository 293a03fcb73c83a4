-- What the names of a package name, by the name's number.
use Rattle.std.specs.Prelude.{◌≡◌, ℕ, ◌<◌, ◌==◌, false, length, None, position, slice_index_or}
use Rattle.std.specs.List.{list_any}
use Rattle.bk_func.specs.Records.{SigRecord, PackageRecord}
use Rattle.bk_form.specs.declared.names.Names.{Names}
use Rattle.bk_form.specs.declared.names.Callee.{Callee}
use Rattle.bk_form.specs.declared.names.Scope.{Scope}
use Rattle.bk_form.specs.declared.missing.Symbol.{Symbol}
use Rattle.bk_form.specs.declared.missing.Symbol.TheVariants as symbol
use Rattle.bk_func.specs.Form.{strict}
use Rattle.bk_func.specs.Form.Signatures.{Setting}
use Rattle.bk_func.specs.Form.Parts.{Symbol as Named, nothing, function, variable, argument}
use Rattle.bk_form.specs.Numbers.{NumbersOf}
use Rattle.bk_form.specs.Places.{nodes_of}

pub record AreNames (p : PackageRecord) (n : Names) : Type 0 where
  pub funcs : length n.funcs.items ≡ length p.names
  pub vars : length n.vars.items ≡ length p.names
  pub func : (s : ℕ) → s < length p.names → slice_index_or n.funcs.items s None ≡ position (λ f. f.name == s) p.funcs
  pub var : (s : ℕ) → s < length p.names → slice_index_or n.vars.items s false ≡ list_any (λ v. v.name == s) p.vars

abbrev pub seen_callee : Callee → SigRecord
seen_callee c = record { args = c.args.now; results = c.results.now }

-- the names, the numbers and the values in text order are those of the package and of the function
pub record IsScope (s : Scope) : Type 0 where
  pub names : AreNames s.pkg.now s.names.now
  pub numbers : NumbersOf s.func.now s.numbers.now
  pub nodes : s.nodes.now ≡ nodes_of s.func.now

abbrev pub seen_symbol : Symbol → Named
seen_symbol symbol.Nothing = nothing
seen_symbol symbol.Func = function
seen_symbol symbol.Var = variable
seen_symbol symbol.Arg = argument

-- what a function of the scope is measured against
abbrev pub measure : Scope → Setting
measure s = strict s.pkg.now s.target
