-- Lines that are cut off a text.
use Rattle.std.proofs.Common.{◌≡◌, ℕ, ◌+◌, ◌-◌, ◌<◌, ◌≤◌, List, [], ◌∷◌, ◌++◌, append_assoc, append-nil, length, take, drop, ap, ◌∙◌, sym, refl, arith, Bool, false, Result, Ok, Err}
use Rattle.std.specs.Prelude.{if◌then◌else◌, ◌==◌}
use Rattle.std.specs.List.{slice_split, position_or_len, before_first, after_first}
use Rattle.std.proofs.lemmas.Bool.Decides.{nat_tests}
use Rattle.std.proofs.lemmas.List.{take_all, length-drop}
use Rattle.std.proofs.lemmas.List.Splits.{slice_split_first, slice_split_none, length-slice_split}
use Rattle.std.proofs.lemmas.List.Sums.{fails_before_first}
use Rattle.bk_rule.specs.declared.trees.Rule.{Rule}
use Rattle.bk_rule_text.specs.declared.errors.RuleError.{RuleError}
use Rattle.bk_rule_text.specs.Texts.{without_cr, is_lf, lines_of, lines, followed, then_lines, at_line, rules_of_line, rules_of_lines}

pub one_line_more : (line : List ℕ) (more : List (List ℕ)) → 0 < length more → lines_of (line ∷ more) ≡ without_cr line ∷ lines_of more
unfolding lines_of
one_line_more line [] h = absurd (omega arith)
one_line_more line (next ∷ more) h = refl

-- where a LF stands
pub cut_at : (text : List ℕ) (n : ℕ) → n ≡ position_or_len is_lf text → n < length text → lines text ≡ without_cr (take n text) ∷ lines (drop (n + 1) text)
unfolding lines
cut_at text n e h =
    let l : position_or_len is_lf text < length text = omega arith in
    ap lines_of (slice_split_first is_lf text 0 l)
    ∙ one_line_more (before_first is_lf text) (slice_split is_lf (after_first is_lf text)) (let c : length (slice_split is_lf (after_first is_lf text)) ≡ _ = length-slice_split is_lf (after_first is_lf text) in omega arith)
    ∙ ap (λ k. without_cr (take k text) ∷ lines_of (slice_split is_lf (drop (k + 1) text))) (sym e)

pub no_lines : lines [] ≡ []
unfolding lines lines_of
no_lines = refl

not_empty : (text : List ℕ) → 0 < length text → lines_of (text ∷ []) ≡ text ∷ []
unfolding lines_of
not_empty text h = let e : (length text == 0) ≡ false = grind (arith, nat_tests) in ap (λ b. if b then [] else text ∷ []) e

-- where none does
pub uncut : (text : List ℕ) (n : ℕ) → n ≡ position_or_len is_lf text → 0 < length text → length text ≤ n → lines text ≡ text ∷ []
unfolding lines
uncut text n e h l =
    ap lines_of (slice_split_none is_lf text (λ k d i. fails_before_first is_lf text k d (omega arith)))
    ∙ not_empty text h

pub rest_of : (text : List ℕ) (n : ℕ) → drop (n + 1) text ≡ take (length text - (n + 1)) (drop (n + 1) text)
rest_of text n = sym (take_all (length text - (n + 1)) (drop (n + 1) text) (simp length-drop (omega arith)))

-- ---- the lines of a text in turn
pub followed_by_those : (front these more : List Rule) (o : Result (List Rule) RuleError) → more ≡ front ++ these → followed front (followed these o) ≡ followed more o
followed_by_those front these more (Err e) h = refl
followed_by_those front these more (Ok rules) h = ap Ok (sym (append_assoc front these rules) ∙ ap (λ xs. xs ++ rules) (sym h))

pub one_line_read : (extra : Bool) (n : ℕ) (ls : List (List ℕ)) (line : List ℕ) (rest : List (List ℕ)) (front these more : List Rule) (o : Result (List Rule) RuleError) →
    followed front (rules_of_lines extra n ls) ≡ o → ls ≡ line ∷ rest → at_line n (rules_of_line extra line) ≡ Ok these → more ≡ front ++ these → followed more (rules_of_lines extra (n + 1) rest) ≡ o
unfolding rules_of_lines
one_line_read extra n ls line rest front these more o h s e m =
    sym (followed_by_those front these more (rules_of_lines extra (n + 1) rest) m)
    ∙ sym (ap (λ r. followed front (then_lines r (rules_of_lines extra (n + 1) rest))) e)
    ∙ sym (ap (λ xs. followed front (rules_of_lines extra n xs)) s)
    ∙ h

pub line_at_fault : (extra : Bool) (n : ℕ) (ls : List (List ℕ)) (line : List ℕ) (rest : List (List ℕ)) (front : List Rule) (f : RuleError) (o : Result (List Rule) RuleError) →
    followed front (rules_of_lines extra n ls) ≡ o → ls ≡ line ∷ rest → at_line n (rules_of_line extra line) ≡ Err f → o ≡ Err f
unfolding rules_of_lines
line_at_fault extra n ls line rest front f o h s e = sym h ∙ ap (λ xs. followed front (rules_of_lines extra n xs)) s ∙ ap (λ r. followed front (then_lines r (rules_of_lines extra (n + 1) rest))) e

pub all_lines_read : (extra : Bool) (n : ℕ) (front : List Rule) (text : List ℕ) (o : Result (List Rule) RuleError) → followed front (rules_of_lines extra n (lines text)) ≡ o → length text ≡ 0 → o ≡ Ok front
unfolding rules_of_lines
all_lines_read extra n front [] o h e = sym h ∙ ap (λ ls. followed front (rules_of_lines extra n ls)) no_lines ∙ ap Ok (append-nil front)
all_lines_read extra n front (c ∷ text) o h e = absurd (omega arith)

pub nothing_before : (o : Result (List Rule) RuleError) → followed [] o ≡ o
nothing_before (Ok rules) = refl
nothing_before (Err e) = refl
