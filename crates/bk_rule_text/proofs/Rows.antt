-- The texts of trees whose arguments are a list.
use Rattle.std.proofs.Common.{◌≡◌, ℕ, suc, ◌<◌, ◌≤◌, refl, ap, sym, ◌∙◌, arith, List, [], ◌∷◌, ◌++◌, map, length, get_or, Option, codes, true, false}
use Rattle.std.specs.Prelude.{if◌then◌else◌}
use Rattle.bk_ops.specs.declared.table.Op.{Op}
use Rattle.bk_rule.specs.declared.trees.Fun.{Fun}
use Rattle.bk_rule.specs.declared.trees.IntPart.{IntPart}
use Rattle.bk_rule.specs.declared.trees.TyPart.{TyPart}
use Rattle.bk_rule.specs.declared.trees.Expr.{Expr, roll-Expr}
use Rattle.bk_rule.specs.declared.trees.Expr.TheOpen.{Expr-F}
use Rattle.bk_rule.specs.declared.trees.Expr.TheBlock.{hidden-the_row-Expr-0}
use Rattle.bk_rule.specs.declared.trees.Pattern.{Pattern, roll-Pattern}
use Rattle.bk_rule.specs.declared.trees.Pattern.TheOpen.{Pattern-F}
use Rattle.bk_rule.specs.declared.trees.Pattern.TheBlock.{hidden-the_row-Pattern-0}
use Rattle.bk_rule.specs.declared.trees.Build.{Build, roll-Build}
use Rattle.bk_rule.specs.declared.trees.Build.TheOpen.{Build-F}
use Rattle.bk_rule.specs.declared.trees.Build.TheBlock.{hidden-the_row-Build-0}
use Rattle.bk_rule.proofs.Opened.{opened}
use Rattle.bk_rule_text.specs.Layout.{symbol, count, operates, is_infix, is_operation, call_text, one_text, two_text, function_text, expr_text, operand_texts, inner_text, name_text, front_text, pattern_text, arguments_text, patterns_text, made_text, build_text, made_arguments_text, builds_text}

pub text_of_call : (f : Fun) (xs : List Expr) → expr_text (roll-Expr (Expr-F.Call f xs)) ≡ call_text f (map inner_text xs)
unfolding opened
text_of_call f xs = ap (call_text f) (each xs)
  where
    each : (ys : List Expr) → operand_texts (hidden-the_row-Expr-0 ys) ≡ map inner_text ys
    each [] = refl
    each (y ∷ ys) = ap (λ zs. inner_text y ∷ zs) (each ys)

pub operation_of_call : (f : Fun) (xs : List Expr) → is_operation (roll-Expr (Expr-F.Call f xs)) ≡ operates f (length xs)
unfolding opened
operation_of_call f xs = ap (operates f) (each xs)
  where
    each : (ys : List Expr) → count (hidden-the_row-Expr-0 ys) ≡ length ys
    each [] = refl
    each (y ∷ ys) = ap suc (each ys)

pub text_of_node : (name : Option ℕ) (o : Op) (ty : Option ℕ) (int : Option IntPart) (aux : Option ℕ) (ps : List Pattern) →
    pattern_text (roll-Pattern (Pattern-F.Node name o ty int aux ps)) ≡ name_text name ++ (front_text o ty int aux ++ (patterns_text ps ++ codes ")"))
unfolding opened patterns_text
text_of_node name o ty int aux ps = ap (λ t. name_text name ++ (front_text o ty int aux ++ (t ++ codes ")"))) (each ps)
  where
    each : (qs : List Pattern) → arguments_text (hidden-the_row-Pattern-0 qs) ≡ patterns_text qs
    each [] = refl
    each (q ∷ qs) = ap (λ t. (codes " " ++ pattern_text q) ++ t) (each qs)

pub text_of_made : (o : Op) (ty : Option TyPart) (int : Option Expr) (aux : Option ℕ) (bs : List Build) →
    build_text (roll-Build (Build-F.Node o ty int aux bs)) ≡ made_text o ty int aux ++ (builds_text bs ++ codes ")")
unfolding opened builds_text
text_of_made o ty int aux bs = ap (λ t. made_text o ty int aux ++ (t ++ codes ")")) (each bs)
  where
    each : (qs : List Build) → made_arguments_text (hidden-the_row-Build-0 qs) ≡ builds_text qs
    each [] = refl
    each (q ∷ qs) = ap (λ t. (codes " " ++ build_text q) ++ t) (each qs)

-- ---- expressions as slices take them apart
pub call_of_one : (f : Fun) (s : List Expr) (x : Expr) → 1 ≤ length s → length s < 2 → x ≡ get_or s 0 x → call_text f (map inner_text s) ≡ one_text f (inner_text x)
call_of_one f [] x l h e = absurd (omega arith)
call_of_one f (y ∷ []) x l h e = ap (λ z. one_text f (inner_text z)) (sym e)
call_of_one f (y ∷ z ∷ s) x l h e = absurd (omega arith)

pub call_of_two : (f : Fun) (s : List Expr) (x y : Expr) → 2 ≤ length s → length s < 3 → x ≡ get_or s 0 x → y ≡ get_or s 1 y → call_text f (map inner_text s) ≡ two_text f (inner_text x) (inner_text y)
call_of_two f [] x y l h e d = absurd (omega arith)
call_of_two f (z ∷ []) x y l h e d = absurd (omega arith)
call_of_two f (z ∷ u ∷ []) x y l h e d = ap (λ w. two_text f (inner_text w) (inner_text u)) (sym e) ∙ ap (λ w. two_text f (inner_text x) (inner_text w)) (sym d)
call_of_two f (z ∷ u ∷ v ∷ s) x y l h e d = absurd (omega arith)

pub between : (f : Fun) (x y : List ℕ) → is_infix f ≡ true → two_text f x y ≡ x ++ (codes " " ++ (symbol f ++ (codes " " ++ y)))
unfolding two_text
between f x y e = ap (λ b. if b then x ++ (codes " " ++ (symbol f ++ (codes " " ++ y))) else function_text f (x ∷ y ∷ [])) e

not_between : (f : Fun) (x y : List ℕ) → is_infix f ≡ false → two_text f x y ≡ function_text f (x ∷ y ∷ [])
unfolding two_text
not_between f x y e = ap (λ b. if b then x ++ (codes " " ++ (symbol f ++ (codes " " ++ y))) else function_text f (x ∷ y ∷ [])) e

pub call_of_no_operator : (f : Fun) (s : List Expr) → 2 ≤ length s → length s < 3 → is_infix f ≡ false → call_text f (map inner_text s) ≡ function_text f (map inner_text s)
call_of_no_operator f [] l h e = absurd (omega arith)
call_of_no_operator f (z ∷ []) l h e = absurd (omega arith)
call_of_no_operator f (z ∷ u ∷ []) l h e = not_between f (inner_text z) (inner_text u) e
call_of_no_operator f (z ∷ u ∷ v ∷ s) l h e = absurd (omega arith)

pub call_of_others : (f : Fun) (s : List Expr) → (length s ≡ 1 → ⊥) → (length s ≡ 2 → ⊥) → call_text f (map inner_text s) ≡ function_text f (map inner_text s)
call_of_others f [] h k = refl
call_of_others f (x ∷ []) h k = absurd (h (omega arith))
call_of_others f (x ∷ y ∷ []) h k = absurd (k (omega arith))
call_of_others f (x ∷ y ∷ z ∷ s) h k = refl
