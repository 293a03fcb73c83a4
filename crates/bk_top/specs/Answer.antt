-- What the program answers to its words and its input.
use Rattle.std.specs.Prelude.{◌≡◌, ◌≢◌, ℕ, ◌<◌, ◌≤◌, ◌%◌, ◌^◌, ◌⊎◌, true, List, [], ◌∷◌, ◌++◌, length, take, map, sum_by, slice_get, Option, None, Some, IfSome, unwrap_or, Ok, Err, codes, string_bytes}
use Rattle.bk_ops.specs.declared.types.Target.{Target}
use Rattle.std.specs.Fmt.{decimal}
use Rattle.std.specs.Io.KnownBytes.{Appends}
use Rattle.bk_io.specs.Faults.{Rose}
use Rattle.bk_elf.specs.declared.errors.LoadError.{LoadError}
use Rattle.bk_elf.specs.Loading.{loaded}
use Rattle.bk_func.specs.Records.{FuncRecord, PackageRecord}
use Rattle.bk_rule.specs.declared.trees.Rule.{Rule}
use Rattle.bk_rule_text.specs.Texts.{rules_of}
use Rattle.bk_rule_text.specs.declared.errors.RuleError.TheVariants as rule
use Rattle.bk_work.specs.declared.refusals.Cause.{Cause}
use Rattle.bk_work.specs.declared.refusals.Refusal.{Refusal as FuncRefusal}
use Rattle.bk_work.specs.Package.{IsCompiled, AreRefused, IsTooLong}
use Rattle.bk_dump.specs.declared.read.errors.DumpError.{DumpError}
use Rattle.bk_dump.specs.declared.read.errors.DumpError.TheVariants as why
use Rattle.bk_dump.specs.Print.{text_of}
use Rattle.bk_dump.specs.Generate.{generated}
use Rattle.bk_top.specs.declared.refusal.Refusal.{Refusal}
use Rattle.bk_top.specs.declared.refusal.Refusal.TheVariants.{Words, ReadFault, TooLong, ExtraTooLong, RuleSyntax, RuleOp, Syntax, Limit, Duplicate, Undefined, FormFault, Functions, Text, Object, Function, Arguments, WriteFault, Memory}
use Rattle.bk_top.specs.declared.refusal.RefusedFunc.{RefusedFunc}
use Rattle.bk_top.specs.Commands.{CommandRecord, compile_row, check_row, generate_row, run_row, evaluate_row, rules_row, load_row, TrialRecord, Asks}
use Rattle.bk_top.specs.Refusals.{status, line}
use Rattle.bk_top.specs.Running.{Runs, LacksFunction, Misfits}
use Rattle.bk_top.specs.Package.{ReadsAs, text_limit}
use Rattle.bk_top.specs.Evaluating.{Evaluates, LacksNamed, MisfitsNamed}
use Rattle.bk_top.specs.Listing.{listing}

-- what a source holds, where that is known, and its count of faults before and now
pub record Stream : Type 0 where
  pub left : Option (List ℕ)
  pub before : ℕ
  pub now : ℕ

abbrev pub stream : Option (List ℕ) → ℕ → ℕ → Stream
stream left before now = record { left = left; before = before; now = now }

-- what `compile` makes with extra rules: the object of the package that the text reads as
abbrev pub Compiles : Target → List Rule → List ℕ → List ℕ → Type 0
Compiles target rules text bytes = (p : PackageRecord) × ReadsAs text target (Ok p) × IsCompiled p target rules bytes

-- a name and a cause for each of the functions
abbrev pub name_in : PackageRecord → Option FuncRecord → List ℕ
name_in p None = []
name_in p (Some f) = unwrap_or (slice_get p.names f.name) []

abbrev pub func_name : PackageRecord → ℕ → List ℕ
func_name p place = name_in p (slice_get p.funcs place)

abbrev pub named_cause : RefusedFunc → List ℕ × Cause
named_cause r = (string_bytes r.name, r.cause)

abbrev pub cause_in : PackageRecord → FuncRefusal → List ℕ × Cause
cause_in p r = (func_name p r.func, r.cause)

-- all functions of the package that are refused, by their names
abbrev pub AreNamed : PackageRecord → Target → List Rule → List RefusedFunc → Type 0
AreNamed p target rules refused = (rs : List FuncRefusal) × AreRefused p target rules rs × (map named_cause refused ≡ map (cause_in p) rs)

-- what is told of a package that has no object
abbrev pub IsObjectRefusal : PackageRecord → Target → List Rule → Refusal → Type 0
IsObjectRefusal p target rules (Functions refused) = AreNamed p target rules refused.items
IsObjectRefusal p target rules (Text n) = IsTooLong p target rules n
IsObjectRefusal p target rules Memory = Unit {0}
IsObjectRefusal p target rules refusal = ⊥

-- what is told of a package whose functions have no frames
abbrev pub IsFrameRefusal : PackageRecord → Target → Refusal → Type 0
IsFrameRefusal p target (Functions refused) = AreNamed p target [] refused.items
IsFrameRefusal p target Memory = Unit {0}
IsFrameRefusal p target refusal = ⊥

-- functions of the package that the text reads as are refused
abbrev pub Refuses : Target → List Rule → List ℕ → List RefusedFunc → Type 0
Refuses target rules text refused = (p : PackageRecord) × ReadsAs text target (Ok p) × AreNamed p target rules refused

-- text and pool of the package that the text reads as are too long
abbrev pub IsLong : Target → List Rule → List ℕ → ℕ → Type 0
IsLong target rules text n = (p : PackageRecord) × ReadsAs text target (Ok p) × IsTooLong p target rules n

-- the line of a package's counts
abbrev pub counts : PackageRecord → List ℕ
counts p = codes "ok " ++ (decimal (length p.funcs) ++ (codes " functions " ++ (decimal (sum_by (λ f. f.given) p.funcs) ++ codes " values\n")))

-- what `check` makes: the counts of the package that the text reads as
abbrev pub Checks : Target → List ℕ → List ℕ → Type 0
Checks target text bytes = (p : PackageRecord) × ReadsAs text target (Ok p) × (bytes ≡ counts p)

-- the line of a package's counts, of its object's length, and of the sum of the object's bytes modulo 2^32
abbrev pub measures : PackageRecord → List ℕ → List ℕ
measures p object =
    codes "functions " ++ (decimal (length p.funcs) ++ (codes " values " ++ (decimal (sum_by (λ f. f.given) p.funcs)
    ++ (codes " bytes " ++ (decimal (length object) ++ (codes " sum " ++ (decimal (sum_by (λ b. b) object % 2 ^ 32) ++ codes "\n")))))))

-- what `load` makes: measures of the object of the generated package
abbrev pub Measures : TrialRecord → List ℕ → Type 0
Measures t bytes = (object : List ℕ) × IsCompiled (generated t.count) t.target [] object × (bytes ≡ measures (generated t.count) object)

-- the bytes of an input, where they are known
abbrev pub IsInput : Option (List ℕ) → List ℕ → Type 0
IsInput input text = IfSome input (λ bytes. text ≡ bytes)

-- the extra rules: none without their word, else those that the text reads as
abbrev pub AreExtra : List (List ℕ) → Option (List ℕ) → List Rule → Type 0
AreExtra [] extra rules = rules ≡ []
AreExtra (word ∷ words) extra rules = (text : List ℕ) × IsInput extra text × (rules_of true text ≡ Ok rules)

-- what a command makes of an input and of extra rules
abbrev pub Makes : CommandRecord → Option (List ℕ) → Option (List ℕ) → List ℕ → Type 0
Makes (compile_row r) input extra bytes =
    (rules : List Rule) × AreExtra r.rules extra rules × ((text : List ℕ) × IsInput input text × Compiles r.target rules text bytes)
Makes (check_row target) input extra bytes = (text : List ℕ) × IsInput input text × Checks target text bytes
Makes (generate_row n) input extra bytes = bytes ≡ text_of (generated n)
Makes (run_row call) input extra bytes = (object : List ℕ) × IsInput input object × Runs call object bytes
Makes (evaluate_row target call) input extra bytes = (text : List ℕ) × IsInput input text × Evaluates target call text bytes
Makes rules_row input extra bytes = bytes ≡ listing
Makes (load_row t) input extra bytes = Measures t bytes

-- a command that reads the extra rules
abbrev pub ReadsExtra : CommandRecord → Type 0
ReadsExtra (compile_row r) = r.rules ≢ []
ReadsExtra _ = ⊥

-- a command that reads its input
abbrev pub ReadsInput : CommandRecord → Type 0
ReadsInput (compile_row r) = Unit {0}
ReadsInput (check_row target) = Unit {0}
ReadsInput (generate_row n) = ⊥
ReadsInput (run_row call) = Unit {0}
ReadsInput (evaluate_row target call) = Unit {0}
ReadsInput rules_row = ⊥
ReadsInput (load_row t) = ⊥

-- the most bytes of an object
abbrev pub object_limit : ℕ
object_limit = 67108864

-- the most bytes of the text of extra rules
abbrev pub rules_limit : ℕ
rules_limit = 65536

-- the most bytes of a command's input
abbrev pub input_limit : CommandRecord → ℕ
input_limit (compile_row r) = text_limit
input_limit (check_row target) = text_limit
input_limit (generate_row n) = text_limit
input_limit (run_row call) = object_limit
input_limit (evaluate_row target call) = text_limit
input_limit rules_row = text_limit
input_limit (load_row t) = text_limit

-- the reader of packages refuses the text of a command
abbrev pub IsUnread : CommandRecord → List ℕ → DumpError → Type 0
IsUnread (compile_row r) text e = ReadsAs text r.target (Err e)
IsUnread (check_row target) text e = ReadsAs text target (Err e)
IsUnread (generate_row n) text e = ⊥
IsUnread (run_row call) text e = ⊥
IsUnread (evaluate_row target call) text e = ReadsAs text target (Err e)
IsUnread rules_row text e = ⊥
IsUnread (load_row t) text e = ⊥

-- the command makes code, and functions of its package are refused
abbrev pub HasRefused : CommandRecord → List Rule → List ℕ → List RefusedFunc → Type 0
HasRefused (compile_row r) rules text refused = Refuses r.target rules text refused
HasRefused (check_row target) rules text refused = ⊥
HasRefused (generate_row n) rules text refused = ⊥
HasRefused (run_row call) rules text refused = ⊥
HasRefused (evaluate_row target call) rules text refused = Refuses target [] text refused
HasRefused rules_row rules text refused = ⊥
HasRefused (load_row t) rules text refused = AreNamed (generated t.count) t.target [] refused

-- the command makes code that is too long
abbrev pub HasLong : CommandRecord → List Rule → List ℕ → ℕ → Type 0
HasLong (compile_row r) rules text n = IsLong r.target rules text n
HasLong (check_row target) rules text n = ⊥
HasLong (generate_row n) rules text k = ⊥
HasLong (run_row call) rules text n = ⊥
HasLong (evaluate_row target call) rules text n = ⊥
HasLong rules_row rules text n = ⊥
HasLong (load_row t) rules text n = IsTooLong (generated t.count) t.target [] n

-- the command runs a function of an object, and its input is none
abbrev pub IsNoObject : CommandRecord → List ℕ → LoadError → Type 0
IsNoObject (compile_row r) text e = ⊥
IsNoObject (check_row target) text e = ⊥
IsNoObject (generate_row n) text e = ⊥
IsNoObject (run_row call) text e = loaded text ≡ Err e
IsNoObject (evaluate_row target call) text e = ⊥
IsNoObject rules_row text e = ⊥
IsNoObject (load_row t) text e = ⊥

-- the command calls a function that is not there
abbrev pub HasNone : CommandRecord → List ℕ → Type 0
HasNone (compile_row r) text = ⊥
HasNone (check_row target) text = ⊥
HasNone (generate_row n) text = ⊥
HasNone (run_row call) text = LacksFunction call text
HasNone (evaluate_row target call) text = LacksNamed target call text
HasNone rules_row text = ⊥
HasNone (load_row t) text = ⊥

-- the command calls a function by words that do not fit it
abbrev pub HasOthers : CommandRecord → List ℕ → Type 0
HasOthers (compile_row r) text = ⊥
HasOthers (check_row target) text = ⊥
HasOthers (generate_row n) text = ⊥
HasOthers (run_row call) text = Misfits call text
HasOthers (evaluate_row target call) text = MisfitsNamed target call text
HasOthers rules_row text = ⊥
HasOthers (load_row t) text = ⊥

-- a refusal of a command's text, with extra rules
abbrev pub Spoils : CommandRecord → List Rule → List ℕ → Refusal → Type 0
Spoils command rules text Words = ⊥
Spoils command rules text ReadFault = ⊥
Spoils command rules text TooLong = ⊥
Spoils command rules text ExtraTooLong = ⊥
Spoils command rules text (RuleSyntax n) = ⊥
Spoils command rules text (RuleOp n) = ⊥
Spoils command rules text (Syntax n) = IsUnread command text (why.Syntax n)
Spoils command rules text (Limit which n) = IsUnread command text (why.Limit which n)
Spoils command rules text (Duplicate n) = IsUnread command text (why.Duplicate n)
Spoils command rules text (Undefined name) = IsUnread command text (why.Undefined name)
Spoils command rules text (FormFault func kind place) = IsUnread command text (why.FormFault func kind place)
Spoils command rules text (Functions refused) = HasRefused command rules text refused.items
Spoils command rules text (Text n) = HasLong command rules text n
Spoils command rules text (Object e) = IsNoObject command text e
Spoils command rules text Function = HasNone command text
Spoils command rules text Arguments = HasOthers command text
Spoils command rules text WriteFault = ⊥
Spoils command rules text Memory = Unit {0}

-- what holds of the extra rules of a command, which are read before its input
abbrev pub WithRules : CommandRecord → Option (List ℕ) → (List Rule → Type 0) → Type 0
WithRules (compile_row r) extra P = (rules : List Rule) × AreExtra r.rules extra rules × P rules
WithRules (check_row target) extra P = P []
WithRules (generate_row n) extra P = P []
WithRules (run_row call) extra P = P []
WithRules (evaluate_row target call) extra P = P []
WithRules rules_row extra P = P []
WithRules (load_row t) extra P = P []

-- what holds of the text of a command: of that which it reads, or of none
abbrev pub WithInput : CommandRecord → Option (List ℕ) → (List ℕ → Type 0) → Type 0
WithInput (compile_row r) input P = IfSome input P
WithInput (check_row target) input P = IfSome input P
WithInput (generate_row n) input P = ⊥
WithInput (run_row call) input P = IfSome input P
WithInput (evaluate_row target call) input P = IfSome input P
WithInput rules_row input P = ⊥
WithInput (load_row t) input P = P []

-- A refusal of a command by its input and its extra rules: faults are counts that rose, want of memory is free, and all
-- else is in what they hold. One of the input comes only where the extra rules are read.
abbrev pub Stems : CommandRecord → Stream → Stream → Refusal → Type 0
Stems command i x Words = ⊥
Stems command i x WriteFault = ⊥
Stems command i x ReadFault = (ReadsInput command × WithRules command x.left (λ rules. Rose i.before i.now)) ⊎ (ReadsExtra command × Rose x.before x.now)
Stems command i x TooLong = ReadsInput command × WithRules command x.left (λ rules. IfSome i.left (λ text. input_limit command < length text))
Stems command i x ExtraTooLong = ReadsExtra command × IfSome x.left (λ text. rules_limit < length text)
Stems command i x (RuleSyntax n) = ReadsExtra command × IfSome x.left (λ text. rules_of true text ≡ Err (rule.RuleSyntax n))
Stems command i x (RuleOp n) = ReadsExtra command × IfSome x.left (λ text. rules_of true text ≡ Err (rule.RuleOp n))
Stems command i x Memory = Unit {0}
Stems command i x refusal = WithRules command x.left (λ rules. WithInput command i.left (λ text. Spoils command rules text refusal))

-- why a refusal comes: no command has these words, or the refusal is one of theirs
abbrev pub Causes : List (List ℕ) → Stream → Stream → Refusal → Type 0
Causes words i x Words = (command : CommandRecord) → Asks words command → ⊥
Causes words i x refusal = (command : CommandRecord) × Asks words command × Stems command i x refusal

-- a count of faults has not risen
abbrev pub NoFault : ℕ → ℕ → Type 0
NoFault before now = Rose before now → ⊥

-- the stream gained a front of the bytes
abbrev pub AppendsFront : Option (List ℕ) → Option (List ℕ) → List ℕ → Type 0
AppendsFront before now bytes = (n : ℕ) × (n ≤ length bytes) × Appends before now (take n bytes)

-- the output gained what the command of the words makes
pub record Gains (words : List (List ℕ)) (input extra before now : Option (List ℕ)) : Type 0 where
  pub command : CommandRecord
  pub asked : Asks words command
  pub bytes : List ℕ
  pub made : Makes command input extra bytes
  pub gained : Appends before now bytes

-- the output gained a front of what the command of the words makes
pub record GainsFront (words : List (List ℕ)) (input extra before now : Option (List ℕ)) : Type 0 where
  pub command : CommandRecord
  pub asked : Asks words command
  pub bytes : List ℕ
  pub made : Makes command input extra bytes
  pub gained : AppendsFront before now bytes

-- the error stream gained the line of a refusal, and the answer is its status
abbrev pub Tells : Refusal → ℕ → Option (List ℕ) → Option (List ℕ) → Type 0
Tells refusal answer before now = (answer ≡ status refusal) × Appends before now (line refusal)

-- The answer is the status of a refusal that has its cause, and its line was told.
pub record Refused (words : List (List ℕ)) (i x : Stream) (answer : ℕ) (told telling : Option (List ℕ)) : Type 0 where
  pub refusal : Refusal
  pub cause : Causes words i x refusal
  pub tells : Tells refusal answer told telling

-- a refusal that tells no more than its cause
abbrev pub IsPlain : Refusal → Type 0
IsPlain (Syntax n) = ⊥
IsPlain (Limit which n) = ⊥
IsPlain (Duplicate n) = ⊥
IsPlain (Undefined name) = ⊥
IsPlain (FormFault func kind place) = ⊥
IsPlain (RuleSyntax n) = ⊥
IsPlain (RuleOp n) = ⊥
IsPlain (Functions refused) = ⊥
IsPlain (Text n) = ⊥
IsPlain (Object e) = ⊥
IsPlain refusal = Unit {0}

-- a refusal of the reader of packages
abbrev pub IsReaders : List ℕ → Target → Refusal → Type 0
IsReaders text target (Syntax n) = ReadsAs text target (Err (why.Syntax n))
IsReaders text target (Limit which n) = ReadsAs text target (Err (why.Limit which n))
IsReaders text target (Duplicate n) = ReadsAs text target (Err (why.Duplicate n))
IsReaders text target (Undefined name) = ReadsAs text target (Err (why.Undefined name))
IsReaders text target (FormFault func kind place) = ReadsAs text target (Err (why.FormFault func kind place))
IsReaders text target Memory = Unit {0}
IsReaders text target refusal = ⊥

-- a refusal of the text of extra rules
abbrev pub IsRulesRefusal : List ℕ → Refusal → Type 0
IsRulesRefusal text (RuleSyntax n) = rules_of true text ≡ Err (rule.RuleSyntax n)
IsRulesRefusal text (RuleOp n) = rules_of true text ≡ Err (rule.RuleOp n)
IsRulesRefusal text Memory = Unit {0}
IsRulesRefusal text refusal = ⊥

-- a refusal to read the extra rules
abbrev pub IsExtraRefusal : Stream → Refusal → Type 0
IsExtraRefusal x ReadFault = Rose x.before x.now
IsExtraRefusal x ExtraTooLong = IfSome x.left (λ text. rules_limit < length text)
IsExtraRefusal x (RuleSyntax n) = IfSome x.left (λ text. rules_of true text ≡ Err (rule.RuleSyntax n))
IsExtraRefusal x (RuleOp n) = IfSome x.left (λ text. rules_of true text ≡ Err (rule.RuleOp n))
IsExtraRefusal x Memory = Unit {0}
IsExtraRefusal x refusal = ⊥

-- a refusal to read an input of at most so many bytes
abbrev pub IsReading : ℕ → Option (List ℕ) → ℕ → ℕ → Refusal → Type 0
IsReading limit input before now ReadFault = Rose before now
IsReading limit input before now TooLong = IfSome input (λ bytes. limit < length bytes)
IsReading limit input before now Memory = Unit {0}
IsReading limit input before now refusal = ⊥

-- a refusal to load an object
abbrev pub IsLoading : List ℕ → Refusal → Type 0
IsLoading object (Object e) = loaded object ≡ Err e
IsLoading object Memory = Unit {0}
IsLoading object refusal = ⊥

-- a refusal tells the reader's answer
abbrev pub StandsFor : Refusal → DumpError → Type 0
StandsFor refusal (why.Syntax n) = refusal ≡ Syntax n
StandsFor refusal (why.Limit which n) = refusal ≡ Limit which n
StandsFor refusal (why.Duplicate n) = refusal ≡ Duplicate n
StandsFor refusal (why.Undefined name) = refusal ≡ Undefined name
StandsFor refusal (why.FormFault func kind place) = refusal ≡ FormFault func kind place
StandsFor refusal why.Memory = refusal ≡ Memory
