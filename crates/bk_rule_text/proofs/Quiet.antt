-- What is printed has no LF and no CR inside a line, and nothing in it can be taken for a group.
use Rattle.std.proofs.Common.{◌≡◌, ℕ, suc, ◌^◌, ◌<◌, List, [], ◌∷◌, ◌++◌, append_assoc, append-nil, ap, ◌∙◌, sym, refl, arith, Bool, true, false, Option, Some, None, codes, ℤ, pos, negsuc}
use Rattle.std.specs.Prelude.{◌==◌, ◌&&◌, not}
use Rattle.std.specs.Fmt.{decimal, signed_decimal}
use Rattle.std.specs.List.{AllByRecursion}
use Rattle.std.proofs.lemmas.Bool.Decides.{nat_tests}
use Rattle.bk_ops.specs.declared.table.Op.{Op}
use Rattle.bk_ops.specs.Names.{name_of}
use Rattle.bk_rule.specs.declared.trees.Expr.{Expr}
use Rattle.bk_rule.specs.declared.trees.Fun.{Fun}
use Rattle.bk_rule.specs.declared.trees.Fun.TheVariants as fun
use Rattle.bk_rule.specs.declared.trees.IntPart.{IntPart}
use Rattle.bk_rule.specs.declared.trees.IntPart.TheVariants as int_part
use Rattle.bk_rule.specs.declared.trees.TyPart.{TyPart}
use Rattle.bk_rule.specs.declared.trees.TyPart.TheVariants as ty_part
use Rattle.bk_rule.specs.declared.trees.Pattern.{Pattern}
use Rattle.bk_rule.specs.declared.trees.Build.{Build}
use Rattle.bk_rule.specs.declared.trees.Rule.{Rule}
use Rattle.bk_rule.specs.Trees.{number, held, call, any, var, named}
use Rattle.bk_rule.proofs.Opened.{opened}
use Rattle.bk_rule_text.specs.Groups.{is_part_byte}
use Rattle.bk_rule_text.specs.Layout.{type_name, symbol, variable, is_prefix, is_infix, is_operation, expr_text, inner_text, conditions_text, name_text, type_variable_text, int_part_text, aux_text, front_text, pattern_text, patterns_text, type_text, int_text, made_text, build_text, builds_text}
use Rattle.bk_rule_text.specs.Names.{Variables}
use Rattle.bk_rule_text.specs.Rules.{first_in_right}
use Rattle.bk_rule_text.specs.Words.{is_word_byte}
use Rattle.bk_rule_text.proofs.Printed.{decimal_digits, digits_in_word, variable_word, IsSmall}
use Rattle.bk_rule_text.proofs.PrintedExprs.{Written, a_number, a_variable, uses_of, of_type, before, between, of_one, of_two, function_text_of, number_text, held_text, uses_text, one_function_text, two_function_text, before_text, before_inner, between_text, between_inner, not_operation, number_operates_not, held_operates_not, one_operates_not, two_operates_not, uses_is_no_prefix}
use Rattle.bk_rule_text.proofs.PrintedPatterns.{OpWritten, Nexts, NextInt, tree, Lefts, no_left, any_left, var_left, node_left, any_text, var_text, below, lefts_up, nexts_up, int_up}
use Rattle.bk_rule_text.proofs.PrintedBuilds.{MadeType, MadeInt, MadeAux, made, Rights, no_right, var_right, node_right, named_text}
use Rattle.bk_rule_text.proofs.PrintedRules.{body, scope, AllWritten, RuleWritten}
use Rattle.bk_rule_text.proofs.Rows.{text_of_node, text_of_made}

-- ---- quiet texts
abbrev pub begins_bar : List ℕ → Bool
begins_bar [] = false
begins_bar (c ∷ t) = c == 124

-- a byte of a line, behind which no `|` stands if it is a letter or a digit
abbrev pub rests : ℕ → Bool → Bool
rests c bar = (not (c == 10) && not (c == 13)) && not (is_part_byte c && bar)

unfoldable pub calm : List ℕ → Bool
calm [] = true
calm (c ∷ t) = rests c (begins_bar t) && calm t

-- a calm text that may stand behind any other
pub record Quiet (t : List ℕ) : Type 0 where
  pub apart : begins_bar t ≡ false
  pub calm_all : calm t ≡ true

pub both_true : (a b : Bool) → (a && b) ≡ true → (a ≡ true) × (b ≡ true)
both_true true b e = (refl, e)
both_true false b e = absurd (let f : false ≡ true = e in cc)

calm_append : (a b : List ℕ) → calm a ≡ true → begins_bar b ≡ false → calm b ≡ true → calm (a ++ b) ≡ true
unfolding calm
calm_append [] b h e g = g
calm_append (c ∷ []) b h e g = ap (λ v. rests c v && calm b) e ∙ ap (λ v. rests c false && v) g ∙ h
calm_append (c ∷ d ∷ a) b h e g =
    let p = both_true (rests c (d == 124)) (calm (d ∷ a)) h in
    ap (λ v. v && calm (d ∷ a ++ b)) p.0 ∙ calm_append (d ∷ a) b p.1 e g

bar_append : (a b : List ℕ) → begins_bar a ≡ false → begins_bar b ≡ false → begins_bar (a ++ b) ≡ false
bar_append [] b h g = g
bar_append (c ∷ a) b h g = h

pub quiet_append : (a b : List ℕ) → Quiet a → Quiet b → Quiet (a ++ b)
quiet_append a b h g = record { apart = bar_append a b h.apart g.apart; calm_all = calm_append a b h.calm_all g.apart g.calm_all }

pub quiet_none : Quiet []
unfolding calm
quiet_none = record { apart = refl; calm_all = refl }

-- ---- words
word_rests : (c : ℕ) → is_word_byte c ≡ true → ((c == 124) ≡ false) × (rests c false ≡ true)
unfolding is_word_byte is_part_byte
word_rests c h = (grind (arith, nat_tests), grind (arith, nat_tests))

word_bar : (t : List ℕ) → AllByRecursion (λ c. is_word_byte c ≡ true) t → begins_bar t ≡ false
word_bar [] h = refl
word_bar (c ∷ t) h = (word_rests c h.0).0

pub quiet_word : (t : List ℕ) → AllByRecursion (λ c. is_word_byte c ≡ true) t → Quiet t
unfolding calm
quiet_word [] h = quiet_none
quiet_word (c ∷ t) h =
    let q = quiet_word t h.1 in
    record { apart = (word_rests c h.0).0; calm_all = ap (λ v. rests c v && calm t) q.apart ∙ ap (λ v. v && calm t) (word_rests c h.0).1 ∙ q.calm_all }

quiet_digits : (n : ℕ) → n < 2 ^ 64 → Quiet (decimal n)
quiet_digits n h = quiet_word (decimal n) (digits_in_word (decimal n) (decimal_digits n h).all)

quiet_variable : (i : ℕ) → i < 2 ^ 64 → Quiet (variable i)
quiet_variable i h = quiet_word (variable i) (variable_word i h)

quiet_minus : Quiet (codes "-")
unfolding calm is_part_byte
quiet_minus = record { apart = refl; calm_all = refl }

quiet_number : (k : ℤ) → IsSmall k → Quiet (signed_decimal k)
quiet_number (pos n) h = quiet_digits n (omega arith)
quiet_number (negsuc n) h = quiet_append (codes "-") (decimal (suc n)) quiet_minus (quiet_digits (suc n) (omega arith))

-- ---- marks
quiet_blank : Quiet (codes " ")
unfolding calm is_part_byte
quiet_blank = record { apart = refl; calm_all = refl }

quiet_open : Quiet (codes "(")
unfolding calm is_part_byte
quiet_open = record { apart = refl; calm_all = refl }

quiet_close : Quiet (codes ")")
unfolding calm is_part_byte
quiet_close = record { apart = refl; calm_all = refl }

quiet_comma : Quiet (codes ",")
unfolding calm is_part_byte
quiet_comma = record { apart = refl; calm_all = refl }

quiet_colon : Quiet (codes ":")
unfolding calm is_part_byte
quiet_colon = record { apart = refl; calm_all = refl }

quiet_any : Quiet (codes "_")
unfolding calm is_part_byte
quiet_any = record { apart = refl; calm_all = refl }

quiet_uses : Quiet (codes ".Uses")
unfolding calm is_part_byte
quiet_uses = record { apart = refl; calm_all = refl }

quiet_arrow : Quiet (codes " => ")
unfolding calm is_part_byte
quiet_arrow = record { apart = refl; calm_all = refl }

quiet_and : Quiet (codes " && ")
unfolding calm is_part_byte
quiet_and = record { apart = refl; calm_all = refl }

quiet_type_open : Quiet (codes " <")
unfolding calm is_part_byte
quiet_type_open = record { apart = refl; calm_all = refl }

quiet_type_close : Quiet (codes ">")
unfolding calm is_part_byte
quiet_type_close = record { apart = refl; calm_all = refl }

quiet_int_open : Quiet (codes " [")
unfolding calm is_part_byte
quiet_int_open = record { apart = refl; calm_all = refl }

quiet_int_close : Quiet (codes "]")
unfolding calm is_part_byte
quiet_int_close = record { apart = refl; calm_all = refl }

quiet_aux_open : Quiet (codes " {")
unfolding calm is_part_byte
quiet_aux_open = record { apart = refl; calm_all = refl }

quiet_aux_close : Quiet (codes "}")
unfolding calm is_part_byte
quiet_aux_close = record { apart = refl; calm_all = refl }

-- a text between two marks
around : (a t b : List ℕ) → Quiet a → Quiet t → Quiet b → Quiet (a ++ (t ++ b))
around a t b x y z = quiet_append a (t ++ b) x (quiet_append t b y z)

said_so : (a b : List ℕ) → a ≡ b → Quiet b → Quiet a
said_so a b e q = record { apart = ap begins_bar e ∙ q.apart; calm_all = ap calm e ∙ q.calm_all }

-- ---- expressions
quiet_prefix : (f : Fun) → is_prefix f ≡ true → Quiet (symbol f)
unfolding calm is_part_byte symbol is_prefix
quiet_prefix fun.Neg h = record { apart = refl; calm_all = refl }
quiet_prefix fun.Com h = record { apart = refl; calm_all = refl }
quiet_prefix _ h = absurd (let e : false ≡ true = h in cc)

quiet_infix : (f : Fun) → is_infix f ≡ true → Quiet (32 ∷ (symbol f ++ (32 ∷ [])))
unfolding calm is_part_byte symbol is_infix
quiet_infix fun.Mul h = record { apart = refl; calm_all = refl }
quiet_infix fun.Shl h = record { apart = refl; calm_all = refl }
quiet_infix fun.Shr h = record { apart = refl; calm_all = refl }
quiet_infix fun.And h = record { apart = refl; calm_all = refl }
quiet_infix fun.Add h = record { apart = refl; calm_all = refl }
quiet_infix fun.Sub h = record { apart = refl; calm_all = refl }
quiet_infix fun.Or h = record { apart = refl; calm_all = refl }
quiet_infix fun.Xor h = record { apart = refl; calm_all = refl }
quiet_infix fun.Eq h = record { apart = refl; calm_all = refl }
quiet_infix fun.Ne h = record { apart = refl; calm_all = refl }
quiet_infix fun.Lt h = record { apart = refl; calm_all = refl }
quiet_infix fun.Le h = record { apart = refl; calm_all = refl }
quiet_infix _ h = absurd (let e : false ≡ true = h in cc)

quiet_plain : (x : Expr) → is_operation x ≡ false → Quiet (inner_text x) → Quiet (inner_text x) × Quiet (expr_text x)
quiet_plain x o q = (q, said_so (expr_text x) (inner_text x) (sym (not_operation x o)) q)

quiet_bracketed : (x : Expr) → inner_text x ≡ 40 ∷ (expr_text x ++ (41 ∷ [])) → Quiet (expr_text x) → Quiet (inner_text x) × Quiet (expr_text x)
quiet_bracketed x e q = (said_so (inner_text x) (codes "(" ++ (expr_text x ++ codes ")")) e (around (codes "(") (expr_text x) (codes ")") quiet_open q quiet_close), q)

pub quiet_both : (s : Variables) (x : Expr) → Written s x → Quiet (inner_text x) × Quiet (expr_text x)
quiet_both s x (a_number k h) = quiet_plain (number k) (number_operates_not k) (said_so (inner_text (number k)) (signed_decimal k) (number_text k) (quiet_number k h))
quiet_both s x (a_variable i n) = quiet_plain (held i) (held_operates_not i) (said_so (inner_text (held i)) (variable i) (held_text i) (quiet_variable i n.small))
quiet_both s x (uses_of i n) =
    let y = call fun.Uses (held i ∷ []) in
    quiet_plain y (one_operates_not fun.Uses (held i) uses_is_no_prefix) (said_so (inner_text y) (variable i ++ codes ".Uses") (uses_text i) (quiet_append (variable i) (codes ".Uses") (quiet_variable i n.small) quiet_uses))
quiet_both s x (of_type f i h o n) =
    let y = call f (held i ∷ []) in
    let e = function_text_of f h in
    let q = said_so (inner_text (held i)) (variable i) (held_text i) (quiet_variable i n.small) in
    quiet_plain y (one_operates_not f (held i) e.not_prefix)
    (
    said_so (inner_text y) (symbol f ++ (codes "(" ++ (inner_text (held i) ++ codes ")"))) (one_function_text f (held i) e.not_prefix e.not_uses)
    (quiet_append (symbol f) (codes "(" ++ (inner_text (held i) ++ codes ")")) (quiet_word (symbol f) e.words) (around (codes "(") (inner_text (held i)) (codes ")") quiet_open q quiet_close))
    )
quiet_both s x (before f y h w) =
    let q = quiet_both s y w in
    quiet_bracketed (call f (y ∷ [])) (before_inner f y h)
    (said_so (expr_text (call f (y ∷ []))) (symbol f ++ (codes " " ++ inner_text y)) (before_text f y h) (quiet_append (symbol f) (codes " " ++ inner_text y) (quiet_prefix f h) (quiet_append (codes " ") (inner_text y) quiet_blank q.0)))
quiet_both s x (between f y z h w v) =
    let q = quiet_both s y w in
    let p = quiet_both s z v in
    let e : expr_text (call f (y ∷ z ∷ [])) ≡ inner_text y ++ ((32 ∷ (symbol f ++ (32 ∷ []))) ++ inner_text z) = between_text f y z h ∙ ap (λ t. inner_text y ++ (32 ∷ t)) (sym (append_assoc (symbol f) (32 ∷ []) (inner_text z))) in
    quiet_bracketed (call f (y ∷ z ∷ [])) (between_inner f y z h)
    (
    said_so (expr_text (call f (y ∷ z ∷ []))) (inner_text y ++ ((32 ∷ (symbol f ++ (32 ∷ []))) ++ inner_text z)) e
    (quiet_append (inner_text y) ((32 ∷ (symbol f ++ (32 ∷ []))) ++ inner_text z) q.0 (quiet_append (32 ∷ (symbol f ++ (32 ∷ []))) (inner_text z) (quiet_infix f h) p.0))
    )
quiet_both s x (of_one f y h o w) =
    let z = call f (y ∷ []) in
    let e = function_text_of f h in
    let q = quiet_both s y w in
    quiet_plain z (one_operates_not f y e.not_prefix)
    (
    said_so (inner_text z) (symbol f ++ (codes "(" ++ (inner_text y ++ codes ")"))) (one_function_text f y e.not_prefix e.not_uses)
    (quiet_append (symbol f) (codes "(" ++ (inner_text y ++ codes ")")) (quiet_word (symbol f) e.words) (around (codes "(") (inner_text y) (codes ")") quiet_open q.0 quiet_close))
    )
quiet_both s x (of_two f y z h o w v) =
    let u = call f (y ∷ z ∷ []) in
    let e = function_text_of f h in
    let q = quiet_both s y w in
    let p = quiet_both s z v in
    let inside = inner_text y ++ (codes "," ++ (inner_text z ++ [])) in
    quiet_plain u (two_operates_not f y z e.not_infix)
    (
    said_so (inner_text u) (symbol f ++ (codes "(" ++ (inside ++ codes ")"))) (two_function_text f y z e.not_infix)
    (
    quiet_append (symbol f) (codes "(" ++ (inside ++ codes ")")) (quiet_word (symbol f) e.words)
    (around (codes "(") inside (codes ")") quiet_open (quiet_append (inner_text y) (codes "," ++ (inner_text z ++ [])) q.0 (around (codes ",") (inner_text z) [] quiet_comma p.0 quiet_none)) quiet_close)
    )
    )

-- ---- left trees
quiet_name : (k : ℕ) (o : Option ℕ) (l : ℕ) → Nexts k o l → l < 2 ^ 64 → Quiet (name_text o)
quiet_name k None l h b = quiet_none
quiet_name k (Some i) l h b = quiet_append (variable i) (codes ":") (quiet_variable i (below k i l h b)) quiet_colon

quiet_type_part : (k : ℕ) (o : Option ℕ) (l : ℕ) → Nexts k o l → l < 2 ^ 64 → Quiet (type_variable_text o)
quiet_type_part k None l h b = quiet_none
quiet_type_part k (Some i) l h b = around (codes " <") (variable i) (codes ">") quiet_type_open (quiet_variable i (below k i l h b)) quiet_type_close

quiet_int_part : (k : ℕ) (o : Option IntPart) (l : ℕ) → NextInt k o l → l < 2 ^ 64 → Quiet (int_part_text o)
quiet_int_part k None l h b = quiet_none
quiet_int_part k (Some (int_part.Number z)) l h b = around (codes " [") (signed_decimal z) (codes "]") quiet_int_open (quiet_number z h.0) quiet_int_close
quiet_int_part k (Some (int_part.Var i)) l h b = around (codes " [") (variable i) (codes "]") quiet_int_open (quiet_variable i (below k i l h b)) quiet_int_close

quiet_aux_part : (k : ℕ) (o : Option ℕ) (l : ℕ) → Nexts k o l → l < 2 ^ 64 → Quiet (aux_text o)
quiet_aux_part k None l h b = quiet_none
quiet_aux_part k (Some i) l h b = around (codes " {") (variable i) (codes "}") quiet_aux_open (quiet_variable i (below k i l h b)) quiet_aux_close

quiet_row : (p : Pattern) (ps : List Pattern) → Quiet (pattern_text p) → Quiet (patterns_text ps) → Quiet (patterns_text (p ∷ ps))
unfolding patterns_text
quiet_row p ps q r = quiet_append (codes " " ++ pattern_text p) (patterns_text ps) (quiet_append (codes " ") (pattern_text p) quiet_blank q) r

quiet_front : (o : Op) (ty : Option ℕ) (int : Option IntPart) (aux : Option ℕ) → OpWritten o → Quiet (type_variable_text ty) → Quiet (int_part_text int) → Quiet (aux_text aux) → Quiet (front_text o ty int aux)
unfolding front_text
quiet_front o ty int aux w t i x =
    quiet_append (codes "(") (name_of o ++ (type_variable_text ty ++ (int_part_text int ++ aux_text aux))) quiet_open
    (quiet_append (name_of o) (type_variable_text ty ++ (int_part_text int ++ aux_text aux)) (quiet_word (name_of o) w.words) (around (type_variable_text ty) (int_part_text int) (aux_text aux) t i x))

no_patterns : patterns_text [] ≡ []
unfolding patterns_text
no_patterns = refl

pub quiet_lefts : (k l : ℕ) (ps : List Pattern) → Lefts k ps l → l < 2 ^ 64 → Quiet (patterns_text ps)
quiet_lefts k l ps (no_left j) b = said_so (patterns_text []) [] no_patterns quiet_none
quiet_lefts k l ps (any_left j m qs h) b = quiet_row any qs (said_so (pattern_text any) (codes "_") any_text quiet_any) (quiet_lefts j m qs h b)
quiet_lefts k l ps (var_left j m n i qs h g) b =
    let up = lefts_up m n qs g in
    quiet_row (var i) qs (said_so (pattern_text (var i)) (variable i) (var_text i) (quiet_variable i (below j i m h (omega arith)))) (quiet_lefts m n qs g b)
quiet_lefts k l ps (node_left j k1 k2 k3 k4 m n name o ty int aux args qs h w g f e d c) b =
    let a2 = nexts_up k1 ty k2 g in
    let a3 = int_up k2 int k3 f in
    let a4 = nexts_up k3 aux k4 e in
    let a5 = lefts_up k4 m args d in
    let a6 = lefts_up m n qs c in
    let front = quiet_front o ty int aux w (quiet_type_part k1 ty k2 g (omega arith)) (quiet_int_part k2 int k3 f (omega arith)) (quiet_aux_part k3 aux k4 e (omega arith)) in
    let inside = quiet_append (patterns_text args) (codes ")") (quiet_lefts k4 m args d (omega arith)) quiet_close in
    quiet_row (tree name o ty int aux args) qs
    (
    said_so (pattern_text (tree name o ty int aux args)) (name_text name ++ (front_text o ty int aux ++ (patterns_text args ++ codes ")"))) (text_of_node name o ty int aux args)
    (around (name_text name) (front_text o ty int aux) (patterns_text args ++ codes ")") (quiet_name j name k1 h (omega arith)) front inside)
    )
    (quiet_lefts m n qs c b)

-- ---- right trees
quiet_type : (s : Variables) (o : Option TyPart) → MadeType s o → Quiet (type_text o)
quiet_type s None w = quiet_none
quiet_type s (Some (ty_part.Is t)) w = around (codes " <") (type_name t) (codes ">") quiet_type_open (quiet_word (type_name t) w.words) quiet_type_close
quiet_type s (Some (ty_part.Var i)) w = around (codes " <") (variable i) (codes ">") quiet_type_open (quiet_variable i w.small) quiet_type_close

quiet_int : (s : Variables) (o : Option Expr) → MadeInt s o → Quiet (int_text o)
quiet_int s None w = quiet_none
quiet_int s (Some x) w = let q = quiet_both s x w in around (codes " [") (expr_text x) (codes "]") quiet_int_open q.1 quiet_int_close

quiet_aux : (s : Variables) (o : Option ℕ) → MadeAux s o → Quiet (aux_text o)
quiet_aux s None w = quiet_none
quiet_aux s (Some i) w = around (codes " {") (variable i) (codes "}") quiet_aux_open (quiet_variable i w.small) quiet_aux_close

quiet_made_row : (b : Build) (bs : List Build) → Quiet (build_text b) → Quiet (builds_text bs) → Quiet (builds_text (b ∷ bs))
unfolding builds_text
quiet_made_row b bs q r = quiet_append (codes " " ++ build_text b) (builds_text bs) (quiet_append (codes " ") (build_text b) quiet_blank q) r

quiet_made : (o : Op) (ty : Option TyPart) (int : Option Expr) (aux : Option ℕ) → OpWritten o → Quiet (type_text ty) → Quiet (int_text int) → Quiet (aux_text aux) → Quiet (made_text o ty int aux)
unfolding made_text
quiet_made o ty int aux w t i x =
    quiet_append (codes "(") (name_of o ++ (type_text ty ++ (int_text int ++ aux_text aux))) quiet_open
    (quiet_append (name_of o) (type_text ty ++ (int_text int ++ aux_text aux)) (quiet_word (name_of o) w.words) (around (type_text ty) (int_text int) (aux_text aux) t i x))

no_builds : builds_text [] ≡ []
unfolding builds_text
no_builds = refl

pub quiet_rights : (s : Variables) (bs : List Build) → Rights s bs → Quiet (builds_text bs)
quiet_rights s bs no_right = said_so (builds_text []) [] no_builds quiet_none
quiet_rights s bs (var_right i cs w h) = quiet_made_row (named i) cs (said_so (build_text (named i)) (variable i) (named_text i) (quiet_variable i w.small)) (quiet_rights s cs h)
quiet_rights s bs (node_right o ty int aux args cs w h g f d c) =
    let front = quiet_made o ty int aux w (quiet_type s ty h) (quiet_int s int g) (quiet_aux s aux f) in
    let inside = quiet_append (builds_text args) (codes ")") (quiet_rights s args d) quiet_close in
    quiet_made_row (made o ty int aux args) cs
    (said_so (build_text (made o ty int aux args)) (made_text o ty int aux ++ (builds_text args ++ codes ")")) (text_of_made o ty int aux args) (quiet_append (made_text o ty int aux) (builds_text args ++ codes ")") front inside))
    (quiet_rights s cs c)

-- ---- rules
quiet_conditions : (s : Variables) (xs : List Expr) → AllWritten s xs → Quiet (conditions_text xs)
unfolding conditions_text
quiet_conditions s [] w = quiet_none
quiet_conditions s (x ∷ xs) w =
    let q = quiet_both s x w.0 in
    quiet_append (codes " && " ++ expr_text x) (conditions_text xs) (quiet_append (codes " && ") (expr_text x) quiet_and q.1) (quiet_conditions s xs w.1)

-- a tree of a row of one
calm_back : (a b : List ℕ) → calm (a ++ b) ≡ true → calm b ≡ true
unfolding calm
calm_back [] b h = h
calm_back (c ∷ a) b h = calm_back a b (both_true (rests c (begins_bar (a ++ b))) (calm (a ++ b)) h).1

calm_of_one : (p : Pattern) → Quiet (patterns_text (p ∷ [])) → calm (pattern_text p) ≡ true
unfolding patterns_text
calm_of_one p q = calm_back (codes " ") (pattern_text p) (sym (ap calm (append-nil (codes " " ++ pattern_text p))) ∙ q.calm_all)

calm_of_one_build : (b : Build) → Quiet (builds_text (b ∷ [])) → calm (build_text b) ≡ true
unfolding builds_text
calm_of_one_build b q = calm_back (codes " ") (build_text b) (sym (ap calm (append-nil (codes " " ++ build_text b))) ∙ q.calm_all)

right_no_bar : (s : Variables) (b : Build) → Rights s (b ∷ []) → begins_bar (build_text b) ≡ false
unfolding opened made_text variable
right_no_bar s b (var_right i cs w h) = refl
right_no_bar s b (node_right o ty int aux args cs w h g f d c) = refl

pub calm_body : (r : Rule) (l : ℕ) → RuleWritten r l → l < 2 ^ 64 → calm (body r) ≡ true
unfolding body
calm_body r l w b =
    let right : Quiet (build_text r.right) = record { apart = right_no_bar (scope l (first_in_right r.left)) r.right w.right; calm_all = calm_of_one_build r.right (quiet_rights (scope l (first_in_right r.left)) (r.right ∷ []) w.right) } in
    let rest = quiet_append (conditions_text r.conds) (codes " => " ++ build_text r.right) (quiet_conditions (scope l 0) r.conds w.conds) (quiet_append (codes " => ") (build_text r.right) quiet_arrow right) in
    calm_append (pattern_text r.left) (conditions_text r.conds ++ (codes " => " ++ build_text r.right)) (calm_of_one r.left (quiet_lefts 0 l (r.left ∷ []) w.left b)) rest.apart rest.calm_all
