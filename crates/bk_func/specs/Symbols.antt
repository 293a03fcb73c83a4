-- The functions that calls name, and their signatures.
use Rattle.std.specs.Prelude.{ℕ, ◌==◌, [], find, Option, Some, None}
use Rattle.bk_func.specs.declared.parts.Aux.{Aux}
use Rattle.bk_func.specs.declared.parts.Aux.TheVariants as beside
use Rattle.bk_func.specs.Records.{FuncRecord, SigRecord, PackageRecord}

-- the two functions of the run-time system that may be called: for a divisor and for a shift count that no program may have
abbrev pub panic_divide : ℕ
panic_divide = 4294967294

abbrev pub panic_shift : ℕ
panic_shift = 4294967295

-- the function that a call names
abbrev pub symbol_of : Aux → ℕ
symbol_of (beside.Sym s) = s
symbol_of _ = 0

abbrev pub no_sig : SigRecord
no_sig = record { args = []; results = [] }

abbrev pub sig_of_some : Option FuncRecord → SigRecord
sig_of_some None = no_sig
sig_of_some (Some g) = g.sig

-- the signature of the function with this name
abbrev pub sig_of : PackageRecord → ℕ → SigRecord
sig_of p s = sig_of_some (find (λ g. g.name == s) p.funcs)
