-- What the program owes after a refusal.
use Rattle.std.proofs.Common.{◌≡◌, ℕ, List, Option, ◌⊎◌, inl, inr}
use Rattle.bk_top.specs.declared.refusal.Refusal.{Refusal}
use Rattle.bk_top.specs.declared.refusal.Refusal.TheVariants.{Words, ReadFault, TooLong, ExtraTooLong, RuleSyntax, RuleOp, Syntax, Limit, Duplicate, Undefined, FormFault, Functions, Text, Object, Function, Arguments, WriteFault, Memory}
use Rattle.bk_top.specs.Commands.{CommandRecord, Asks}
use Rattle.bk_top.specs.Answer.{Stream, Stems, Causes, Tells, Refused}

-- a refusal of a command has its cause
caused : (words : List (List ℕ)) (i x : Stream) (c : CommandRecord) (r : Refusal) → Asks words c → Stems c i x r → Causes words i x r
caused words i x c Words asked s = absurd s
caused words i x c WriteFault asked s = absurd s
caused words i x c ReadFault asked s = (c, asked, s)
caused words i x c TooLong asked s = (c, asked, s)
caused words i x c ExtraTooLong asked s = (c, asked, s)
caused words i x c (RuleSyntax n) asked s = (c, asked, s)
caused words i x c (RuleOp n) asked s = (c, asked, s)
caused words i x c (Syntax n) asked s = (c, asked, s)
caused words i x c (Limit which n) asked s = (c, asked, s)
caused words i x c (Duplicate n) asked s = (c, asked, s)
caused words i x c (Undefined name) asked s = (c, asked, s)
caused words i x c (FormFault func kind place) asked s = (c, asked, s)
caused words i x c (Functions refused) asked s = (c, asked, s)
caused words i x c (Text n) asked s = (c, asked, s)
caused words i x c (Object e) asked s = (c, asked, s)
caused words i x c Function asked s = (c, asked, s)
caused words i x c Arguments asked s = (c, asked, s)
caused words i x c Memory asked s = (c, asked, s)

pub refused : (words : List (List ℕ)) (i x : Stream) (answer : ℕ) (c : CommandRecord) (r : Refusal) (told telling : Option (List ℕ)) (Fault : Type 0) → Asks words c → Stems c i x r
    → (Tells r answer told telling ⊎ Tells Memory answer told telling) ⊎ ((answer ≡ 5) × Fault) → (answer ≡ 5 → ⊥) → Refused words i x answer told telling
refused words i x answer c r told telling Fault asked s (inl (inl t)) five = record { refusal = r; cause = caused words i x c r asked s; tells = t }
refused words i x answer c r told telling Fault asked s (inl (inr t)) five = record { refusal = Memory; cause = (c, asked, tt); tells = t }
refused words i x answer c r told telling Fault asked s (inr (is, rose)) five = absurd (five is)
