-- The package of whole functions whose references are looked up.
use Rattle.std.proofs.Common.{◌≡◌, ℕ, List, ap}
use Rattle.std.specs.Prelude.{Ok, Err}
use Rattle.bk_func.specs.Records.{FuncRecord, VarRecord, PackageRecord}
use Rattle.bk_dump.specs.Trees.{FuncTree}
use Rattle.bk_dump.specs.Resolved.{◌>>=◌, each, func_of, package_of}

abbrev pub made_package : List (List ℕ) → List VarRecord → List FuncRecord → PackageRecord
made_package names vars fs = record { names = names; funcs = fs; vars = vars }

pub package_is : (names : List (List ℕ)) (funcs : List FuncTree) (vars : List VarRecord) (fs : List FuncRecord) → each (func_of names) funcs ≡ Ok fs → package_of names funcs vars ≡ Ok (made_package names vars fs)
unfolding package_of
package_is names funcs vars fs h = ap (λ r. r >>= λ fs. Ok (made_package names vars fs)) h

pub package_fails : (names : List (List ℕ)) (funcs : List FuncTree) (vars : List VarRecord) (name : List ℕ) → each (func_of names) funcs ≡ Err name → package_of names funcs vars ≡ Err name
unfolding package_of
package_fails names funcs vars name h = ap (λ r. r >>= λ fs. Ok (made_package names vars fs)) h
