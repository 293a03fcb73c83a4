-- Loops that read again and again: what is left to read after each turn.
use Rattle.std.proofs.Common.{◌≡◌, ℕ, zero, suc, ◌+◌, ◌-◌, ◌<◌, ◌≤◌, List, [], ◌∷◌, ◌++◌, ap, ◌∙◌, sym, refl, arith, append_assoc, append-nil, Option, Some, None, codes}
use Rattle.bk_rule.specs.declared.trees.Expr.{Expr}
use Rattle.bk_rule.specs.declared.trees.Fun.{Fun}
use Rattle.bk_rule.specs.declared.trees.Pattern.{Pattern}
use Rattle.bk_rule.specs.Trees.{call}
use Rattle.std.specs.Option.{option_map_or}
use Rattle.bk_rule_text.specs.Front.{Read, ◌>>=◌, mark_at, where_marked, onto, until_bracket}
use Rattle.bk_rule_text.specs.Exprs.{chain}
use Rattle.bk_rule_text.specs.Patterns.{Numbers, in_front, patterns_at}
use Rattle.bk_rule_text.specs.Rules.{conditions}

-- one turn less
less : (n i : ℕ) → i < n → n - i ≡ suc (n - (i + 1))
less n i h = omega arith

done : (n i : ℕ) → n ≤ i → n - i ≡ 0
done n i h = omega arith

-- ---- operators and their operands
abbrev step_of : Read Fun → Read Expr → ℕ → Expr → List ℕ → Option (Fun × List ℕ) → Option (Expr × List ℕ)
step_of operator operand n left text o =
    option_map_or (λ f. operand f.1 >>= λ y. chain operator operand n (call f.0 (left ∷ y.0 ∷ [])) y.1) o (Some (left, text))

abbrev turn_of : Read Fun → Read Expr → ℕ → Expr → Fun → Option (Expr × List ℕ) → Option (Expr × List ℕ)
turn_of operator operand n left f o = o >>= λ y. chain operator operand n (call f (left ∷ y.0 ∷ [])) y.1

stops : (operator : Read Fun) (operand : Read Expr) (n : ℕ) (left : Expr) (text : List ℕ) → operator text ≡ None → chain operator operand n left text ≡ Some (left, text)
unfolding chain
stops operator operand zero left text e = refl
stops operator operand (suc n) left text e = ap (step_of operator operand n left text) e

goes_on : (operator : Read Fun) (operand : Read Expr) (n : ℕ) (left : Expr) (text : List ℕ) (f : Fun) (r : List ℕ) → operator text ≡ Some (f, r)
    → chain operator operand (suc n) left text ≡ turn_of operator operand n left f (operand r)
unfolding chain
goes_on operator operand n left text f r e = ap (step_of operator operand n left text) e

-- where no operator stands
pub chain_stops : (operator : Read Fun) (operand : Read Expr) (n : ℕ) (left : Expr) (text : List ℕ) (o : Option (Expr × List ℕ)) → chain operator operand n left text ≡ o → operator text ≡ None → o ≡ Some (left, text)
chain_stops operator operand n left text o h e = sym h ∙ stops operator operand n left text e

-- where its operand is not read
pub chain_fails : (operator : Read Fun) (operand : Read Expr) (n i : ℕ) (left : Expr) (text : List ℕ) (f : Fun) (r : List ℕ) (o : Option (Expr × List ℕ)) → chain operator operand (n - i) left text ≡ o → i < n
    → operator text ≡ Some (f, r) → operand r ≡ None → o ≡ None
chain_fails operator operand n i left text f r o h l e g =
    sym h ∙ ap (λ k. chain operator operand k left text) (less n i l) ∙ goes_on operator operand (n - (i + 1)) left text f r e ∙ ap (turn_of operator operand (n - (i + 1)) left f) g

-- where it is
pub chain_goes_on : (operator : Read Fun) (operand : Read Expr) (n i : ℕ) (left : Expr) (text : List ℕ) (f : Fun) (r : List ℕ) (y : Expr) (s : List ℕ) (o : Option (Expr × List ℕ)) → chain operator operand (n - i) left text ≡ o → i < n
    → operator text ≡ Some (f, r) → operand r ≡ Some (y, s) → chain operator operand (n - (i + 1)) (call f (left ∷ y ∷ [])) s ≡ o
chain_goes_on operator operand n i left text f r y s o h l e g =
    sym (ap (λ k. chain operator operand k left text) (less n i l) ∙ goes_on operator operand (n - (i + 1)) left text f r e ∙ ap (turn_of operator operand (n - (i + 1)) left f) g) ∙ h

-- where as many were read as the text can hold
pub chain_ends : (operator : Read Fun) (operand : Read Expr) (n i : ℕ) (left : Expr) (text : List ℕ) (o : Option (Expr × List ℕ)) → chain operator operand (n - i) left text ≡ o → n ≤ i → o ≡ Some (left, text)
unfolding chain
chain_ends operator operand n i left text o h l = sym h ∙ ap (λ k. chain operator operand k left text) (done n i l)

-- ---- arguments up to a bracket
-- those read so far in front of the others
abbrev pub behind : {A : Type 0} → List A → Option (List A × List ℕ) → Option (List A × List ℕ)
behind front None = None
behind front (Some more) = Some (front ++ more.0, more.1)

behind_onto : {A : Type 0} (front more : List A) (x : A) (o : Option (List A × List ℕ)) → more ≡ front ++ x ∷ [] → behind front (onto x o) ≡ behind more o
behind_onto front more x None e = refl
behind_onto front more x (Some y) e = ap (λ xs. Some (xs, y.1)) (sym (append_assoc front (x ∷ []) y.0) ∙ ap (λ xs. xs ++ y.0) (sym e))

abbrev reads_on : {A : Type 0} → Read A → ℕ → List ℕ → Option (List ℕ) → Option (List A × List ℕ)
reads_on read n text o = where_marked o (λ r. Some ([], r)) (read text >>= λ x. onto x.0 (until_bracket read n x.1))

abbrev reads_one : {A : Type 0} → Read A → ℕ → Option (A × List ℕ) → Option (List A × List ℕ)
reads_one read n o = o >>= λ x. onto x.0 (until_bracket read n x.1)

one_more : {A : Type 0} (read : Read A) (n : ℕ) (text : List ℕ) → mark_at (codes ")") text ≡ None → until_bracket read (suc n) text ≡ reads_one read n (read text)
unfolding until_bracket
one_more read n text e = ap (reads_on read n text) e

pub bracket_ends : {A : Type 0} (read : Read A) (n i : ℕ) (front : List A) (text r : List ℕ) (o : Option (List A × List ℕ)) → behind front (until_bracket read (n - i) text) ≡ o → i < n
    → mark_at (codes ")") text ≡ Some r → o ≡ Some (front, r)
unfolding until_bracket
bracket_ends read n i front text r o h l e =
    sym h ∙ ap (λ k. behind front (until_bracket read k text)) (less n i l) ∙ ap (λ m. behind front (reads_on read (n - (i + 1)) text m)) e ∙ ap (λ xs. Some (xs, r)) (append-nil front)

pub argument_fails : {A : Type 0} (read : Read A) (n i : ℕ) (front : List A) (text : List ℕ) (o : Option (List A × List ℕ)) → behind front (until_bracket read (n - i) text) ≡ o → i < n
    → mark_at (codes ")") text ≡ None → read text ≡ None → o ≡ None
argument_fails read n i front text o h l e g =
    sym h ∙ ap (λ k. behind front (until_bracket read k text)) (less n i l) ∙ ap (behind front) (one_more read (n - (i + 1)) text e ∙ ap (reads_one read (n - (i + 1))) g)

pub argument_goes_on : {A : Type 0} (read : Read A) (n i : ℕ) (front more : List A) (text : List ℕ) (x : A) (s : List ℕ) (o : Option (List A × List ℕ)) → behind front (until_bracket read (n - i) text) ≡ o → i < n
    → mark_at (codes ")") text ≡ None → read text ≡ Some (x, s) → more ≡ front ++ x ∷ [] → behind more (until_bracket read (n - (i + 1)) s) ≡ o
argument_goes_on read n i front more text x s o h l e g p =
    sym (
    ap (λ k. behind front (until_bracket read k text)) (less n i l)
    ∙ ap (behind front) (one_more read (n - (i + 1)) text e ∙ ap (reads_one read (n - (i + 1))) g)
    ∙ behind_onto front more x (until_bracket read (n - (i + 1)) s) p
    )
    ∙ h

pub bracket_missing : {A : Type 0} (read : Read A) (n i : ℕ) (front : List A) (text : List ℕ) (o : Option (List A × List ℕ)) → behind front (until_bracket read (n - i) text) ≡ o → n ≤ i → o ≡ None
unfolding until_bracket
bracket_missing read n i front text o h l = sym h ∙ ap (λ k. behind front (until_bracket read k text)) (done n i l)

pub nothing_read : {A : Type 0} (o : Option (List A × List ℕ)) → behind [] o ≡ o
nothing_read None = refl
nothing_read (Some x) = refl

-- ---- the same of left trees, whose variables are numbered
abbrev pub behind_those : {A : Type 0} → List A → Option (List A × List (List ℕ) × List ℕ) → Option (List A × List (List ℕ) × List ℕ)
behind_those front None = None
behind_those front (Some more) = Some (front ++ more.0, more.1, more.2)

behind_in_front : {A : Type 0} (front more : List A) (x : A) (o : Option (List A × List (List ℕ) × List ℕ)) → more ≡ front ++ x ∷ [] → behind_those front (in_front x o) ≡ behind_those more o
behind_in_front front more x None e = refl
behind_in_front front more x (Some y) e = ap (λ xs. Some (xs, y.1, y.2)) (sym (append_assoc front (x ∷ []) y.0) ∙ ap (λ xs. xs ++ y.0) (sym e))

abbrev patterns_on : Numbers Pattern → ℕ → List (List ℕ) → List ℕ → Option (List ℕ) → Option (List Pattern × List (List ℕ) × List ℕ)
patterns_on read n names text o = where_marked o (λ r. Some ([], names, r)) (read names text >>= λ p. in_front p.0 (patterns_at read n p.1 p.2))

abbrev patterns_one : Numbers Pattern → ℕ → Option (Pattern × List (List ℕ) × List ℕ) → Option (List Pattern × List (List ℕ) × List ℕ)
patterns_one read n o = o >>= λ p. in_front p.0 (patterns_at read n p.1 p.2)

one_pattern_more : (read : Numbers Pattern) (n : ℕ) (names : List (List ℕ)) (text : List ℕ) → mark_at (codes ")") text ≡ None → patterns_at read (suc n) names text ≡ patterns_one read n (read names text)
unfolding patterns_at
one_pattern_more read n names text e = ap (patterns_on read n names text) e

pub patterns_end : (read : Numbers Pattern) (n i : ℕ) (front : List Pattern) (names : List (List ℕ)) (text r : List ℕ) (o : Option (List Pattern × List (List ℕ) × List ℕ)) → behind_those front (patterns_at read (n - i) names text) ≡ o → i < n
    → mark_at (codes ")") text ≡ Some r → o ≡ Some (front, names, r)
unfolding patterns_at
patterns_end read n i front names text r o h l e =
    sym h ∙ ap (λ k. behind_those front (patterns_at read k names text)) (less n i l) ∙ ap (λ m. behind_those front (patterns_on read (n - (i + 1)) names text m)) e ∙ ap (λ xs. Some (xs, names, r)) (append-nil front)

pub pattern_fails : (read : Numbers Pattern) (n i : ℕ) (front : List Pattern) (names : List (List ℕ)) (text : List ℕ) (o : Option (List Pattern × List (List ℕ) × List ℕ)) → behind_those front (patterns_at read (n - i) names text) ≡ o → i < n
    → mark_at (codes ")") text ≡ None → read names text ≡ None → o ≡ None
pattern_fails read n i front names text o h l e g =
    sym h ∙ ap (λ k. behind_those front (patterns_at read k names text)) (less n i l) ∙ ap (behind_those front) (one_pattern_more read (n - (i + 1)) names text e ∙ ap (patterns_one read (n - (i + 1))) g)

pub patterns_go_on : (read : Numbers Pattern) (n i : ℕ) (front more : List Pattern) (names those : List (List ℕ)) (text : List ℕ) (x : Pattern) (s : List ℕ) (o : Option (List Pattern × List (List ℕ) × List ℕ)) → behind_those front (patterns_at read (n - i) names text) ≡ o → i < n
    → mark_at (codes ")") text ≡ None → read names text ≡ Some (x, those, s) → more ≡ front ++ x ∷ [] → behind_those more (patterns_at read (n - (i + 1)) those s) ≡ o
patterns_go_on read n i front more names those text x s o h l e g p =
    sym (
    ap (λ k. behind_those front (patterns_at read k names text)) (less n i l)
    ∙ ap (behind_those front) (one_pattern_more read (n - (i + 1)) names text e ∙ ap (patterns_one read (n - (i + 1))) g)
    ∙ behind_in_front front more x (patterns_at read (n - (i + 1)) those s) p
    )
    ∙ h

pub patterns_missing : (read : Numbers Pattern) (n i : ℕ) (front : List Pattern) (names : List (List ℕ)) (text : List ℕ) (o : Option (List Pattern × List (List ℕ) × List ℕ)) → behind_those front (patterns_at read (n - i) names text) ≡ o → n ≤ i → o ≡ None
unfolding patterns_at
patterns_missing read n i front names text o h l = sym h ∙ ap (λ k. behind_those front (patterns_at read k names text)) (done n i l)

pub no_pattern_read : (o : Option (List Pattern × List (List ℕ) × List ℕ)) → behind_those [] o ≡ o
no_pattern_read None = refl
no_pattern_read (Some x) = refl

-- ---- conditions
abbrev conditions_on : Read Expr → ℕ → List ℕ → Option (List ℕ) → Option (List Expr × List ℕ)
conditions_on read n text o = where_marked o (λ r. read r >>= λ x. onto x.0 (conditions read n x.1)) (Some ([], text))

no_condition : (read : Read Expr) (n : ℕ) (text : List ℕ) → mark_at (codes "&&") text ≡ None → conditions read n text ≡ Some ([], text)
unfolding conditions
no_condition read zero text e = refl
no_condition read (suc n) text e = ap (conditions_on read n text) e

one_condition : (read : Read Expr) (n : ℕ) (text r : List ℕ) → mark_at (codes "&&") text ≡ Some r → conditions read (suc n) text ≡ (read r >>= λ x. onto x.0 (conditions read n x.1))
unfolding conditions
one_condition read n text r e = ap (conditions_on read n text) e

abbrev condition_one : Read Expr → ℕ → Option (Expr × List ℕ) → Option (List Expr × List ℕ)
condition_one read n o = o >>= λ x. onto x.0 (conditions read n x.1)

pub conditions_stop : (read : Read Expr) (n : ℕ) (front : List Expr) (text : List ℕ) (o : Option (List Expr × List ℕ)) → behind front (conditions read n text) ≡ o → mark_at (codes "&&") text ≡ None → o ≡ Some (front, text)
conditions_stop read n front text o h e = sym h ∙ ap (behind front) (no_condition read n text e) ∙ ap (λ xs. Some (xs, text)) (append-nil front)

pub condition_fails : (read : Read Expr) (n i : ℕ) (front : List Expr) (text r : List ℕ) (o : Option (List Expr × List ℕ)) → behind front (conditions read (n - i) text) ≡ o → i < n
    → mark_at (codes "&&") text ≡ Some r → read r ≡ None → o ≡ None
condition_fails read n i front text r o h l e g =
    sym h ∙ ap (λ k. behind front (conditions read k text)) (less n i l) ∙ ap (behind front) (one_condition read (n - (i + 1)) text r e ∙ ap (condition_one read (n - (i + 1))) g)

pub conditions_go_on : (read : Read Expr) (n i : ℕ) (front more : List Expr) (text r : List ℕ) (x : Expr) (s : List ℕ) (o : Option (List Expr × List ℕ)) → behind front (conditions read (n - i) text) ≡ o → i < n
    → mark_at (codes "&&") text ≡ Some r → read r ≡ Some (x, s) → more ≡ front ++ x ∷ [] → behind more (conditions read (n - (i + 1)) s) ≡ o
conditions_go_on read n i front more text r x s o h l e g p =
    sym (
    ap (λ k. behind front (conditions read k text)) (less n i l)
    ∙ ap (behind front) (one_condition read (n - (i + 1)) text r e ∙ ap (condition_one read (n - (i + 1))) g)
    ∙ behind_onto front more x (conditions read (n - (i + 1)) s) p
    )
    ∙ h

pub conditions_end : (read : Read Expr) (n i : ℕ) (front : List Expr) (text : List ℕ) (o : Option (List Expr × List ℕ)) → behind front (conditions read (n - i) text) ≡ o → n ≤ i → o ≡ Some (front, text)
unfolding conditions
conditions_end read n i front text o h l = sym h ∙ ap (λ k. behind front (conditions read k text)) (done n i l) ∙ ap (λ xs. Some (xs, text)) (append-nil front)
