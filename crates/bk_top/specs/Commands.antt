-- The rows of words.
use Rattle.std.specs.Prelude.{◌≡◌, ◌≢◌, ℕ, ℤ, pos, negsuc, ◌^◌, ◌<◌, ◌≤◌, List, [], ◌∷◌, length, slice_index, All, codes, map, string_bytes}
use Rattle.std.specs.Fmt.{decimal, signed_decimal}
use Rattle.bk_ops.specs.declared.types.Target.{Target}
use Rattle.bk_ops.specs.declared.types.Target.TheVariants.{Arm, Riscv64}
use Rattle.bk_top.specs.declared.command.call.Call.{Call}
use Rattle.bk_top.specs.declared.command.Command.{Command}
use Rattle.bk_top.specs.declared.command.Request.{Request}
use Rattle.bk_top.specs.declared.command.Trial.{Trial}
use Rattle.bk_top.specs.declared.command.Command.TheVariants.{Compile, Check, Generate, Run, Evaluate, Rules, Load}

-- a function by its name, a bound on its run, and the words of its arguments
pub record CallRecord : Type 0 where
  pub name : List ℕ
  pub bound : ℕ
  pub args : List (List ℕ)

-- what is compiled, with how many threads, and the word of the extra rules, which may be missing
pub record CompileRecord : Type 0 where
  pub target : Target
  pub workers : ℕ
  pub rules : List (List ℕ)

-- a generated package of so many functions that is compiled, with how many threads
pub record TrialRecord : Type 0 where
  pub count : ℕ
  pub target : Target
  pub workers : ℕ

-- what words may ask for
pub data CommandRecord : Type 0 where
  compile_row : CompileRecord → CommandRecord
  check_row : Target → CommandRecord
  generate_row : ℕ → CommandRecord
  run_row : CallRecord → CommandRecord
  evaluate_row : Target → CallRecord → CommandRecord
  rules_row : CommandRecord
  load_row : TrialRecord → CommandRecord

abbrev pub seen_call : Call → CallRecord
seen_call c = record { name = string_bytes c.name.now; bound = c.bound; args = map string_bytes c.args.now }

abbrev pub seen_request : Request → CompileRecord
seen_request r = record { target = r.target; workers = r.workers; rules = map string_bytes r.rules.now }

abbrev pub seen_trial : Trial → TrialRecord
seen_trial t = record { count = t.count; target = t.target; workers = t.workers }

abbrev pub seen : Command → CommandRecord
seen (Compile request) = compile_row (seen_request request)
seen (Check target) = check_row target
seen (Generate n) = generate_row n
seen (Run call) = run_row (seen_call call)
seen (Evaluate target call) = evaluate_row target (seen_call call)
seen Rules = rules_row
seen (Load trial) = load_row (seen_trial trial)

abbrev pub target_word : Target → List ℕ
target_word Arm = codes "arm"
target_word Riscv64 = codes "riscv64"

abbrev pub call_words : CallRecord → List (List ℕ)
call_words c = c.name ∷ decimal c.bound ∷ c.args

-- the words of a command
abbrev pub words_of : CommandRecord → List (List ℕ)
words_of (compile_row r) = codes "compile" ∷ target_word r.target ∷ decimal r.workers ∷ r.rules
words_of (check_row target) = codes "check" ∷ target_word target ∷ []
words_of (generate_row n) = codes "gen" ∷ decimal n ∷ []
words_of (run_row call) = codes "run" ∷ call_words call
words_of (evaluate_row target call) = codes "eval" ∷ target_word target ∷ call_words call
words_of rules_row = codes "rules" ∷ []
words_of (load_row t) = codes "load" ∷ decimal t.count ∷ target_word t.target ∷ decimal t.workers ∷ []

-- digits that have no sign and no leading zero
abbrev pub IsCanonical : List ℕ → Type 0
IsCanonical digits = (slice_index digits 0 ≢ 43) × (1 < length digits → slice_index digits 0 ≢ 48)

-- a number from -2^63 to 2^64 - 1
abbrev pub IsArgument : ℤ → Type 0
IsArgument (pos n) = n < 2 ^ 64
IsArgument (negsuc n) = n < 2 ^ 63

-- a word that spells such a number
abbrev pub SpellsArgument : List ℕ → Type 0
SpellsArgument word = (z : ℤ) × IsArgument z × (word ≡ signed_decimal z)

-- the numbers of a call are in their ranges
abbrev pub IsCall : CallRecord → Type 0
IsCall c = (c.bound < 2 ^ 64) × All SpellsArgument c.args

-- how many functions a generated package may have, and how many threads may be used
abbrev pub IsCount : ℕ → Type 0
IsCount n = (1 ≤ n) × (n ≤ 4096)

abbrev pub AreWorkers : ℕ → Type 0
AreWorkers n = (1 ≤ n) × (n ≤ 64)

-- the numbers of a command are in their ranges
abbrev pub IsInRange : CommandRecord → Type 0
IsInRange (compile_row r) = AreWorkers r.workers × (length r.rules ≤ 1)
IsInRange (check_row target) = Unit {0}
IsInRange (generate_row n) = IsCount n
IsInRange (run_row call) = IsCall call
IsInRange (evaluate_row target call) = IsCall call
IsInRange rules_row = Unit {0}
IsInRange (load_row t) = IsCount t.count × AreWorkers t.workers

-- the words ask for the command
abbrev pub Asks : List (List ℕ) → CommandRecord → Type 0
Asks words command = (words ≡ words_of command) × IsInRange command
