-- The names of a package that a text reads as.
use Rattle.std.specs.Prelude.{◌≡◌, ◌≢◌, ◌<◌, ◌≤◌, ◌+◌, ℕ, List, [], length, map, slice_index_or, All, Contains}
use Rattle.std.specs.List.{AllPairs, sum_by}
use Rattle.bk_func.specs.Records.{PackageRecord}
use Rattle.bk_func.specs.Limits.{most_functions, most_variables}
use Rattle.bk_dump.specs.Parts.{IsName}

-- the numbers of the names of functions and of variables
abbrev pub func_places : PackageRecord → List ℕ
func_places p = map (λ f. f.name) p.funcs

abbrev pub var_places : PackageRecord → List ℕ
var_places p = map (λ v. v.name) p.vars

-- the names of functions, in order
abbrev pub func_names : PackageRecord → List (List ℕ)
func_names p = map (λ f. slice_index_or p.names f.name []) p.funcs

-- no two are the same
abbrev pub Differ : List (List ℕ) → Type 0
Differ names = AllPairs (λ a b. a ≢ b) names

-- the bytes of names, each with one behind it
abbrev pub names_size : List (List ℕ) → ℕ
names_size names = sum_by (λ n. length n + 1) names

-- each function and each variable has a name of its own, in the order in which they are declared; the text holds the names
pub record HasNames (text : List ℕ) (p : PackageRecord) : Type 0 where
  pub few_funcs : length p.funcs ≤ most_functions
  pub few_vars : length p.vars ≤ most_variables
  pub counted : length p.funcs + length p.vars ≡ length p.names
  pub funcs_rise : AllPairs (λ a b. a < b) (func_places p)
  pub vars_rise : AllPairs (λ a b. a < b) (var_places p)
  pub funcs_within : All (λ n. n < length p.names) (func_places p)
  pub vars_within : All (λ n. n < length p.names) (var_places p)
  pub apart : All (λ n. Contains (var_places p) n → ⊥) (func_places p)
  pub named : All IsName p.names
  pub differ : Differ p.names
  pub short : names_size p.names ≤ length text
  pub funcs_named : All IsName (func_names p)
  pub funcs_differ : Differ (func_names p)
  pub funcs_short : names_size (func_names p) ≤ length text
