-- What a printer wrote, put together from its parts.
use Rattle.std.proofs.Common.{◌≡◌, ℕ, ◌<◌, ◌≤◌, ap, sym, subst, ◌∙◌, arith, List, ◌++◌, append_assoc, map, length, get_or, Option, codes, Bool, true, false, Result, OnOk}
use Rattle.std.proofs.lemmas.Bool.Decides.{nat_tests}
use Rattle.bk_ops.specs.declared.table.Op.{Op}
use Rattle.bk_rule.specs.declared.trees.Fun.{Fun}
use Rattle.bk_rule.specs.declared.trees.IntPart.{IntPart}
use Rattle.bk_rule.specs.declared.trees.TyPart.{TyPart}
use Rattle.bk_rule.specs.declared.trees.Expr.{Expr, roll-Expr}
use Rattle.bk_rule.specs.declared.trees.Expr.TheOpen.{Expr-F}
use Rattle.bk_rule.specs.declared.trees.Pattern.{Pattern, roll-Pattern}
use Rattle.bk_rule.specs.declared.trees.Pattern.TheOpen.{Pattern-F}
use Rattle.bk_rule.specs.declared.trees.Build.{Build, roll-Build}
use Rattle.bk_rule.specs.declared.trees.Build.TheOpen.{Build-F}
use Rattle.bk_rule_text.specs.Layout.{symbol, operates, is_prefix, is_infix, is_operation, call_text, function_text, expr_text, inner_text, name_text, front_text, pattern_text, patterns_text, made_text, build_text, builds_text}
use Rattle.bk_rule_text.proofs.Rows.{text_of_call, operation_of_call, text_of_node, text_of_made, call_of_two, between, call_of_no_operator}

-- what was written, said in other words
pub told : {T E : Type 0} (r : Result T E) (a x y : List ℕ) → x ≡ y → OnOk r (a ≡ x) → OnOk r (a ≡ y)
told r a x y e h = let P : List ℕ → Type 0 = λ t. OnOk r (a ≡ t) in subst P e h

-- ---- whether a call is a use of an operator
operates_on_one : (f : Fun) (n : ℕ) → n ≡ 1 → is_prefix f ≡ operates f n
unfolding operates
operates_on_one f n e = ap (operates f) (sym e)

operates_on_two : (f : Fun) (n : ℕ) → n ≡ 2 → is_infix f ≡ operates f n
unfolding operates
operates_on_two f n e = ap (operates f) (sym e)

operates_on_others : (f : Fun) (n : ℕ) → (n ≡ 1 → ⊥) → (n ≡ 2 → ⊥) → false ≡ operates f n
unfolding operates
operates_on_others f n h k = grind (arith, nat_tests)

pub prefix_is : (f : Fun) (xs : List Expr) (c : Expr) (n : ℕ) → n ≡ length xs → c ≡ roll-Expr (Expr-F.Call f xs) → n ≡ 1 → is_prefix f ≡ is_operation c
prefix_is f xs c n l e h = operates_on_one f n h ∙ ap (operates f) l ∙ sym (operation_of_call f xs) ∙ sym (ap is_operation e)

pub infix_is : (f : Fun) (xs : List Expr) (c : Expr) (n : ℕ) → n ≡ length xs → c ≡ roll-Expr (Expr-F.Call f xs) → n ≡ 2 → is_infix f ≡ is_operation c
infix_is f xs c n l e h = operates_on_two f n h ∙ ap (operates f) l ∙ sym (operation_of_call f xs) ∙ sym (ap is_operation e)

pub function_is : (f : Fun) (xs : List Expr) (c : Expr) (n : ℕ) → n ≡ length xs → c ≡ roll-Expr (Expr-F.Call f xs) → (n ≡ 1 → ⊥) → (n ≡ 2 → ⊥) → false ≡ is_operation c
function_is f xs c n l e h k = operates_on_others f n h k ∙ ap (operates f) l ∙ sym (operation_of_call f xs) ∙ sym (ap is_operation e)

-- ---- expressions
pub call_is : (f : Fun) (xs s : List Expr) (c : Expr) (a : List ℕ) → s ≡ xs → c ≡ roll-Expr (Expr-F.Call f xs) → a ++ call_text f (map inner_text s) ≡ a ++ expr_text c
call_is f xs s c a e h = ap (λ t. a ++ t) (ap (λ ys. call_text f (map inner_text ys)) e ∙ sym (text_of_call f xs) ∙ sym (ap expr_text h))

pub no_operator : (f : Fun) (s : List Expr) (a : List ℕ) (b : Bool) → 2 ≤ length s → length s < 3 → b ≡ false → b ≡ is_infix f → a ++ function_text f (map inner_text s) ≡ a ++ call_text f (map inner_text s)
no_operator f s a b l h e g = ap (λ t. a ++ t) (sym (call_of_no_operator f s l h (sym g ∙ e)))

parts : (a x p s y : List ℕ) → ((a ++ x) ++ (p ++ (s ++ p))) ++ y ≡ a ++ (x ++ (p ++ (s ++ (p ++ y))))
parts a x p s y =
    append_assoc (a ++ x) (p ++ (s ++ p)) y ∙ append_assoc a x ((p ++ (s ++ p)) ++ y)
    ∙ ap (λ t. a ++ (x ++ t)) (append_assoc p (s ++ p) y ∙ ap (λ t. p ++ t) (append_assoc s p y))

pub operator_between : (f : Fun) (s : List Expr) (x y : Expr) (a b c t : List ℕ) (o : Bool) → 2 ≤ length s → length s < 3 → x ≡ get_or s 0 x → y ≡ get_or s 1 y → o ≡ true → o ≡ is_infix f
    → b ≡ a ++ inner_text x → t ≡ symbol f → c ≡ b ++ (codes " " ++ (t ++ codes " ")) → c ++ inner_text y ≡ a ++ call_text f (map inner_text s)
operator_between f s x y a b c t o l h i j n g e u d =
    ap (λ v. v ++ inner_text y) (d ∙ ap (λ v. b ++ (codes " " ++ (v ++ codes " "))) u ∙ ap (λ v. v ++ (codes " " ++ (symbol f ++ codes " "))) e)
    ∙ parts a (inner_text x) (codes " ") (symbol f) (inner_text y)
    ∙ ap (λ v. a ++ v) (sym (call_of_two f s x y l h i j ∙ between f (inner_text x) (inner_text y) (sym g ∙ n)))

-- ---- trees
pub node_is : (name : Option ℕ) (o : Op) (ty : Option ℕ) (int : Option IntPart) (aux : Option ℕ) (ps s : List Pattern) (p : Pattern) (a b c : List ℕ) →
    p ≡ roll-Pattern (Pattern-F.Node name o ty int aux ps) → s ≡ ps → b ≡ a ++ name_text name → c ≡ b ++ front_text o ty int aux → c ++ (patterns_text s ++ codes ")") ≡ a ++ pattern_text p
node_is name o ty int aux ps s p a b c e h n f =
    ap (λ v. v ++ (patterns_text s ++ codes ")")) (f ∙ ap (λ v. v ++ front_text o ty int aux) n)
    ∙ append_assoc (a ++ name_text name) (front_text o ty int aux) (patterns_text s ++ codes ")")
    ∙ append_assoc a (name_text name) (front_text o ty int aux ++ (patterns_text s ++ codes ")"))
    ∙ ap (λ v. a ++ (name_text name ++ (front_text o ty int aux ++ (patterns_text v ++ codes ")")))) h
    ∙ ap (λ v. a ++ v) (sym (text_of_node name o ty int aux ps) ∙ sym (ap pattern_text e))

pub made_is : (o : Op) (ty : Option TyPart) (int : Option Expr) (aux : Option ℕ) (bs s : List Build) (t : Build) (a b : List ℕ) →
    t ≡ roll-Build (Build-F.Node o ty int aux bs) → s ≡ bs → b ≡ a ++ made_text o ty int aux → b ++ (builds_text s ++ codes ")") ≡ a ++ build_text t
made_is o ty int aux bs s t a b e h m =
    ap (λ v. v ++ (builds_text s ++ codes ")")) m
    ∙ append_assoc a (made_text o ty int aux) (builds_text s ++ codes ")")
    ∙ ap (λ v. a ++ (made_text o ty int aux ++ (builds_text v ++ codes ")"))) h
    ∙ ap (λ v. a ++ v) (sym (text_of_made o ty int aux bs) ∙ sym (ap build_text e))
