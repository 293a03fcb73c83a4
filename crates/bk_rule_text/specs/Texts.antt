-- The rules that a text gives, or its first line at fault.
use Rattle.std.specs.Prelude.{ℕ, ◌+◌, ◌-◌, Bool, not, nat_lt, ◌==◌, ◌&&◌, ◌||◌, if◌then◌else◌, List, [], ◌∷◌, ◌++◌, length, take, slice_index, Option, Some, None, Result, Ok, Err, codes}
use Rattle.std.specs.List.{slice_split, list_all}
use Rattle.std.specs.Option.{is_some}
use Rattle.bk_rule.specs.declared.trees.Rule.{Rule}
use Rattle.bk_rule_text.specs.declared.errors.Fault.{Fault}
use Rattle.bk_rule_text.specs.declared.errors.Fault.TheVariants as fault
use Rattle.bk_rule_text.specs.declared.errors.RuleError.{RuleError}
use Rattle.bk_rule_text.specs.declared.errors.RuleError.TheVariants as error
use Rattle.bk_rule_text.specs.Front.{◌>>=◌, is_done, mark_at}
use Rattle.bk_rule_text.specs.Groups.{BitTree, bits, count_of, expanded}
use Rattle.bk_rule_text.specs.Rules.{rule_at, numbers_from}
use Rattle.bk_rule_text.specs.Stands.{has_its_parts, same_sort, agree, rule_sorts}
use Rattle.bk_rule_text.specs.Widths.{fits}

-- ---- lines
-- the line without the CR that it may end in
unfoldable pub without_cr : List ℕ → List ℕ
without_cr line = if nat_lt 0 (length line) && slice_index line (length line - 1) == 13 then take (length line - 1) line else line

-- the lines of the parts between the LFs of a text: the last one is a line only where it is not empty, and it keeps its CR
unfoldable pub lines_of : List (List ℕ) → List (List ℕ)
lines_of [] = []
lines_of (last ∷ []) = if length last == 0 then [] else last ∷ []
lines_of (line ∷ next ∷ more) = without_cr line ∷ lines_of (next ∷ more)

abbrev pub is_lf : ℕ → Bool
is_lf c = c == 10

unfoldable pub lines : List ℕ → List (List ℕ)
lines text = lines_of (slice_split is_lf text)

-- a line that is skipped: blank, or begun by `#` or `//` behind its blanks
abbrev pub is_skipped : List ℕ → Bool
is_skipped line = is_done line || is_some (mark_at (codes "#") line) || is_some (mark_at (codes "//") line)

-- ---- the rules of a line
abbrev pub in_front : {A : Type 0} → A → Option (List A) → Option (List A)
in_front x None = None
in_front x (Some xs) = Some (x ∷ xs)

-- the rules at these places, of those that the bits of a line stand for
unfoldable pub rules_at : List BitTree → List ℕ → Option (List Rule)
rules_at bs [] = Some []
rules_at bs (k ∷ ks) = rule_at (expanded k bs) >>= λ r. in_front r (rules_at bs ks)

-- the rules that a line stands for, whatever their ops
unfoldable pub written : List ℕ → Option (List Rule)
written line = count_of (bits line) >>= λ n. rules_at (bits line) (numbers_from 0 n)

-- the ops of a rule stand as they may: each has its arguments and parts, each variable stands in places of one kind, and
-- in an extra rule all widths fit
unfoldable pub stands : Bool → Rule → Bool
stands extra r = (has_its_parts r && agree same_sort (rule_sorts r)) && (not extra || fits r)

-- the rules of a line; a line outside the grammar is told before one whose ops may not stand so
abbrev pub if_standing : Bool → Option (List Rule) → Result (List Rule) Fault
if_standing extra None = Err fault.Syntax
if_standing extra (Some rules) = if list_all (stands extra) rules then Ok rules else Err fault.Op

unfoldable pub rules_of_line : Bool → List ℕ → Result (List Rule) Fault
rules_of_line extra line = if is_skipped line then Ok [] else if_standing extra (written line)

-- ---- the rules of a text
-- why a text is refused, by the number of its line at fault
abbrev pub at : ℕ → Fault → RuleError
at n fault.Syntax = error.RuleSyntax n
at n fault.Op = error.RuleOp n
at n fault.Memory = error.Memory

abbrev pub at_line : ℕ → Result (List Rule) Fault → Result (List Rule) RuleError
at_line n (Ok rules) = Ok rules
at_line n (Err f) = Err (at n f)

-- rules, and those of the lines behind, where none of these is at fault
abbrev pub followed : List Rule → Result (List Rule) RuleError → Result (List Rule) RuleError
followed rules (Ok more) = Ok (rules ++ more)
followed rules (Err e) = Err e

-- the first line at fault decides
abbrev pub then_lines : Result (List Rule) RuleError → Result (List Rule) RuleError → Result (List Rule) RuleError
then_lines (Ok rules) more = followed rules more
then_lines (Err e) more = Err e

-- the rules of lines, the first of which has this number, or the first of them at fault
unfoldable pub rules_of_lines : Bool → ℕ → List (List ℕ) → Result (List Rule) RuleError
rules_of_lines extra n [] = Ok []
rules_of_lines extra n (line ∷ more) = then_lines (at_line n (rules_of_line extra line)) (rules_of_lines extra (n + 1) more)

-- the rules that a text gives, or its first line at fault
unfoldable pub rules_of : Bool → List ℕ → Result (List Rule) RuleError
rules_of extra text = rules_of_lines extra 1 (lines text)
