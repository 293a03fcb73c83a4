-- What a refusal tells: its status and its line.
use Rattle.std.specs.Prelude.{ℕ, List, ◌++◌, flat_map, codes, string_bytes}
use Rattle.std.specs.Fmt.{decimal}
use Rattle.bk_dump.specs.declared.read.errors.Which.{Which}
use Rattle.bk_dump.specs.declared.read.errors.Which.TheVariants.{Functions, Variables, Values, Blocks, Numbers, Signature, Window}
use Rattle.bk_form.specs.declared.FormKind.{FormKind}
use Rattle.bk_form.specs.declared.FormKind.TheVariants as kind
use Rattle.bk_form.specs.declared.Place.{Place}
use Rattle.bk_form.specs.declared.Place.TheVariants.{Block, Value}
use Rattle.bk_elf.specs.declared.errors.LoadError.{LoadError}
use Rattle.bk_elf.specs.declared.errors.LoadError.TheVariants as why
use Rattle.bk_top.specs.declared.refusal.Refusal.{Refusal}
use Rattle.bk_top.specs.declared.refusal.Refusal.TheVariants.{Words, ReadFault, TooLong, ExtraTooLong, RuleSyntax, RuleOp, Syntax, Limit, Duplicate, Undefined, FormFault, Functions, Text, Object, Function, Arguments, WriteFault, Memory}
use Rattle.bk_top.specs.declared.refusal.RefusedFunc.{RefusedFunc}
use Rattle.bk_work.specs.declared.refusals.Cause.{Cause}
use Rattle.bk_work.specs.declared.refusals.Cause.TheVariants.{Construct, Passes, Grown, Frame}

abbrev pub status : Refusal → ℕ
status Words = 2
status ReadFault = 4
status TooLong = 3
status ExtraTooLong = 7
status (RuleSyntax line) = 7
status (RuleOp line) = 7
status (Syntax line) = 3
status (Limit which line) = 3
status (Duplicate line) = 3
status (Undefined name) = 3
status (FormFault func kind place) = 3
status (Functions refused) = 1
status (Text bytes) = 9
status (Object e) = 8
status Function = 10
status Arguments = 10
status WriteFault = 5
status Memory = 6

abbrev pub limit_name : Which → List ℕ
limit_name Functions = codes "functions"
limit_name Variables = codes "variables"
limit_name Values = codes "values"
limit_name Blocks = codes "blocks"
limit_name Numbers = codes "numbers"
limit_name Signature = codes "signature"
limit_name Window = codes "window"

abbrev pub kind_name : FormKind → List ℕ
kind_name kind.Control = codes "control"
kind_name kind.Missing = codes "missing"
kind_name kind.Arity = codes "arity"
kind_name kind.Ty = codes "type"
kind_name kind.Width = codes "width"
kind_name kind.Use = codes "use"
kind_name kind.Memory = codes "memory"
kind_name kind.Order = codes "order"

-- a block's or a value's number behind its letter
abbrev pub place_name : Place → List ℕ
place_name (Block id) = codes "b" ++ decimal id
place_name (Value id) = codes "v" ++ decimal id

-- why a file is no object; want of memory is told as such
abbrev pub object_fault : LoadError → List ℕ
object_fault why.NotElf = codes "not ELF\n"
object_fault (why.BadHeader place) = codes "header " ++ (decimal place ++ codes "\n")
object_fault (why.BadSection n) = codes "section " ++ (decimal n ++ codes "\n")
object_fault why.Truncated = codes "truncated\n"
object_fault why.Memory = codes "memory\n"

-- the refusal of a file that is not loaded
abbrev pub refusal_of_load : LoadError → Refusal
refusal_of_load why.Memory = Memory
refusal_of_load e = Object e

-- why a function is not compiled
abbrev pub cause_text : Cause → List ℕ
cause_text (Construct value) = codes "construct v" ++ decimal value
cause_text (Passes count) = codes "passes " ++ decimal count
cause_text (Grown values) = codes "grown " ++ decimal values
cause_text (Frame need) = codes "frame " ++ decimal need

abbrev pub func_line : RefusedFunc → List ℕ
func_line r = codes "function " ++ (string_bytes r.name ++ (codes ": " ++ (cause_text r.cause ++ codes "\n")))

-- the line on the error stream; of functions that are not compiled one line for each
unfoldable pub line : Refusal → List ℕ
line Words = codes "words\n"
line ReadFault = codes "read fault\n"
line TooLong = codes "too long\n"
line ExtraTooLong = codes "extra too long\n"
line (RuleSyntax n) = codes "extra line " ++ (decimal n ++ codes ": syntax\n")
line (RuleOp n) = codes "extra line " ++ (decimal n ++ codes ": op\n")
line (Syntax n) = codes "line " ++ (decimal n ++ codes ": syntax\n")
line (Limit which n) = codes "line " ++ (decimal n ++ (codes ": limit " ++ (limit_name which ++ codes "\n")))
line (Duplicate n) = codes "line " ++ (decimal n ++ codes ": duplicate\n")
line (Undefined name) = codes "undefined " ++ (string_bytes name ++ codes "\n")
line (FormFault func kind place) =
    codes "function " ++ (string_bytes func ++ (codes ": form " ++ (kind_name kind ++ (codes " " ++ (place_name place ++ codes "\n")))))
line (Functions refused) = flat_map func_line refused.items
line (Text n) = codes "text " ++ (decimal n ++ codes "\n")
line (Object e) = codes "object: " ++ object_fault e
line Function = codes "function\n"
line Arguments = codes "arguments\n"
line WriteFault = codes "write fault\n"
line Memory = codes "memory\n"
