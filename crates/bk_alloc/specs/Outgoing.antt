-- The words of the calls of a function.
use Rattle.std.specs.Prelude.{◌≡◌, ℕ, ◌+◌, ◌≤◌, ◌==◌, ◌&&◌, not, Bool, true, false, if◌then◌else◌, List, Option, Some, None}
use Rattle.std.specs.List.{find, list_any}
use Rattle.bk_ops.specs.declared.family.Family.{Family}
use Rattle.bk_ops.specs.declared.types.Target.{Target}
use Rattle.bk_ops.specs.Families.{is_word_call}
use Rattle.bk_func.specs.declared.parts.Aux.{Aux}
use Rattle.bk_func.specs.declared.parts.Aux.TheVariants as beside
use Rattle.bk_func.specs.Records.{BlockRecord, FuncRecord, PackageRecord, SigRecord, ValueRecord}
use Rattle.bk_func.specs.Symbols.{panic_divide, panic_shift, sig_of_some}
use Rattle.bk_func.specs.Words.{count_words}

-- the words of a signature, arguments and results together
abbrev pub words_of : Target → SigRecord → ℕ
words_of t g = count_words t g.args + count_words t g.results

-- the function that a call names, unless the program ends there
abbrev pub callee : Family → Aux → Option ℕ
callee o (beside.Sym s) = if is_word_call o && (not (s == panic_divide) && not (s == panic_shift)) then Some s else None
callee o _ = None

abbrev pub is_named : ℕ → Option ℕ → Bool
is_named s None = false
is_named s (Some n) = n == s

abbrev pub is_call_of : ℕ → ValueRecord → Bool
is_call_of s v = is_named s (callee v.op.family v.aux)

-- the function calls the one with this name
abbrev pub calls : List BlockRecord → ℕ → Bool
calls bs s = list_any (λ b. list_any (is_call_of s) b.values) bs

-- the words of the first of these functions that has the name
abbrev pub words_named : Target → List FuncRecord → ℕ → ℕ
words_named t gs s = words_of t (sig_of_some (find (λ g. g.name == s) gs))

-- the most words of those that are called
pub record AreMost (t : Target) (called : ℕ → Bool) (gs : List FuncRecord) (n : ℕ) : Type 0 where
  pub bound : (s : ℕ) → called s ≡ true → words_named t gs s ≤ n
  pub least : (m : ℕ) → ((s : ℕ) → called s ≡ true → words_named t gs s ≤ m) → n ≤ m

abbrev pub IsOutgoing : Target → PackageRecord → FuncRecord → ℕ → Type 0
IsOutgoing t p f n = AreMost t (calls f.blocks) p.funcs n
