-- What contracts see of the reader.
use Rattle.std.specs.Prelude.{◌≡◌, map, Option, Some, None, Result, Ok, Err}
use Rattle.bk_rule_text.specs.declared.errors.Fault.{Fault}
use Rattle.bk_rule_text.specs.declared.errors.Fault.TheVariants as fault
use Rattle.bk_rule_text.specs.declared.errors.RuleError.{RuleError}
use Rattle.bk_rule_text.specs.declared.errors.RuleError.TheVariants as error
use Rattle.bk_rule_text.specs.declared.errors.Unread.{Unread}
use Rattle.bk_rule_text.specs.declared.errors.Unread.TheVariants as unread
use Rattle.bk_rule_text.specs.declared.read.group.Bit.{Bit}
use Rattle.bk_rule_text.specs.declared.read.group.Bit.TheVariants as bit
use Rattle.bk_rule_text.specs.Groups.{BitTree, byte, group}

-- why a line gives no rules, where a part of it was not read
abbrev pub Becomes : Unread → Fault → Type 0
Becomes unread.Syntax f = f ≡ fault.Syntax
Becomes unread.Memory f = f ≡ fault.Memory

-- what a call reads, want of memory aside
abbrev pub Reads : {X Y : Type 0} → (X → Y) → Result X Unread → Option Y → Type 0
Reads view (Ok x) read = read ≡ Some (view x)
Reads view (Err unread.Syntax) read = read ≡ None
Reads view (Err unread.Memory) read = Unit {0}

-- what a line gives, want of memory aside
abbrev pub Gives : {A B : Type 0} → (A → B) → Result A Fault → Result B Fault → Type 0
Gives view (Ok x) wanted = wanted ≡ Ok (view x)
Gives view (Err fault.Syntax) wanted = wanted ≡ Err fault.Syntax
Gives view (Err fault.Op) wanted = wanted ≡ Err fault.Op
Gives view (Err fault.Memory) wanted = Unit {0}

-- what a text gives, want of memory aside
abbrev pub Answers : {A B : Type 0} → (A → B) → Result A RuleError → Result B RuleError → Type 0
Answers view (Ok x) wanted = wanted ≡ Ok (view x)
Answers view (Err (error.RuleSyntax n)) wanted = wanted ≡ Err (error.RuleSyntax n)
Answers view (Err (error.RuleOp n)) wanted = wanted ≡ Err (error.RuleOp n)
Answers view (Err error.Memory) wanted = Unit {0}

-- a bit of a line
abbrev pub bit_of : Bit → BitTree
bit_of (bit.Byte c) = byte c
bit_of (bit.Group parts) = group (map (λ part. part.now) parts.items)
