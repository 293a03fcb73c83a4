-- What is asked of and said in trees whose arguments are a list, and loops over such lists.
use Rattle.std.proofs.Common.{◌≡◌, ℕ, suc, ◌+◌, ◌<◌, ◌≤◌, refl, ap, sym, subst, ◌∙◌, List, [], ◌∷◌, ◌++◌, append_assoc, drop, length, get_or, Option, Bool, true, false, Result, OnOk}
use Rattle.std.specs.Prelude.{◌&&◌}
use Rattle.std.specs.List.{list_all}
use Rattle.std.specs.Option.{is_some}
use Rattle.std.proofs.lemmas.List.{drop_all}
use Rattle.bk_ops.specs.declared.table.Op.{Op}
use Rattle.bk_ops.specs.declared.table.Class.{Class}
use Rattle.bk_rule.specs.declared.trees.Fun.{Fun}
use Rattle.bk_rule.specs.declared.trees.IntPart.{IntPart}
use Rattle.bk_rule.specs.declared.trees.TyPart.{TyPart}
use Rattle.bk_rule.specs.declared.trees.Expr.{Expr, roll-Expr}
use Rattle.bk_rule.specs.declared.trees.Expr.TheOpen.{Expr-F}
use Rattle.bk_rule.specs.declared.trees.Expr.TheBlock.{hidden-the_row-Expr-0}
use Rattle.bk_rule.specs.declared.trees.Pattern.{Pattern, roll-Pattern}
use Rattle.bk_rule.specs.declared.trees.Pattern.TheOpen.{Pattern-F}
use Rattle.bk_rule.specs.declared.trees.Pattern.TheBlock.{hidden-the_row-Pattern-0}
use Rattle.bk_rule.specs.declared.trees.Build.{Build, roll-Build}
use Rattle.bk_rule.specs.declared.trees.Build.TheOpen.{Build-F}
use Rattle.bk_rule.specs.declared.trees.Build.TheBlock.{hidden-the_row-Build-0}
use Rattle.bk_rule.proofs.Opened.{opened}
use Rattle.bk_rule_text.specs.declared.stands.sort.Sort.{Sort}
use Rattle.bk_rule_text.specs.declared.stands.sort.Sort.TheVariants as sort
use Rattle.bk_rule_text.specs.Stands.{may_stand, count, made_count, pattern_stands, row_stands, build_stands, made_row_stands, said, sort_of_aux, sort_of_operand, variable_of_int, variable_of_type, pattern_sorts, row_sorts, patterns_sorts, expr_sorts, operand_sorts, exprs_sorts, int_sorts, build_sorts, made_row_sorts, builds_sorts}
use Rattle.bk_rule_text.specs.Widths.{class_at, op_fits, pattern_fits, row_fits, patterns_fit, pattern_classes, row_classes, patterns_classes, head_fits, build_fits, made_row_fits, builds_fit, build_classes, made_row_classes, builds_classes}
use Rattle.bk_rule_text.proofs.Keys.{front_of}

-- ---- loops that test
pub one_passes : {A : Type 0} (p : A → Bool) (xs : List A) (i : ℕ) (x : A) (o : Bool) → list_all p (drop i xs) ≡ o → i < length xs → x ≡ get_or xs i x → p x ≡ true → list_all p (drop (i + 1) xs) ≡ o
one_passes p xs i x o h l e t = sym (ap (λ b. b && list_all p (drop (i + 1) xs)) t) ∙ sym (ap (list_all p) (front_of xs i x l e)) ∙ h

pub one_fails : {A : Type 0} (p : A → Bool) (xs : List A) (i : ℕ) (x : A) (o : Bool) → list_all p (drop i xs) ≡ o → i < length xs → x ≡ get_or xs i x → p x ≡ false → o ≡ false
one_fails p xs i x o h l e t = sym h ∙ ap (list_all p) (front_of xs i x l e) ∙ ap (λ b. b && list_all p (drop (i + 1) xs)) t

pub all_pass : {A : Type 0} (p : A → Bool) (xs : List A) (i : ℕ) (o : Bool) → list_all p (drop i xs) ≡ o → length xs ≤ i → o ≡ true
all_pass p xs i o h l = sym h ∙ ap (list_all p) (drop_all i xs l)

-- ---- ops, their parts and their counts of arguments
pub standing_node : (name : Option ℕ) (o : Op) (ty : Option ℕ) (int : Option IntPart) (aux : Option ℕ) (ps : List Pattern) →
    pattern_stands (roll-Pattern (Pattern-F.Node name o ty int aux ps)) ≡ (may_stand o (length ps) (is_some int) (is_some aux) && list_all pattern_stands ps)
unfolding opened
standing_node name o ty int aux ps =
    ap (λ n. may_stand o n (is_some int) (is_some aux) && row_stands (hidden-the_row-Pattern-0 ps)) (counted ps)
    ∙ ap (λ b. may_stand o (length ps) (is_some int) (is_some aux) && b) (each ps)
  where
    counted : (qs : List Pattern) → count (hidden-the_row-Pattern-0 qs) ≡ length qs
    counted [] = refl
    counted (q ∷ qs) = ap suc (counted qs)

    each : (qs : List Pattern) → row_stands (hidden-the_row-Pattern-0 qs) ≡ list_all pattern_stands qs
    each [] = refl
    each (q ∷ qs) = ap (λ b. pattern_stands q && b) (each qs)

pub standing_build : (o : Op) (ty : Option TyPart) (int : Option Expr) (aux : Option ℕ) (bs : List Build) →
    build_stands (roll-Build (Build-F.Node o ty int aux bs)) ≡ (may_stand o (length bs) (is_some int) (is_some aux) && list_all build_stands bs)
unfolding opened
standing_build o ty int aux bs =
    ap (λ n. may_stand o n (is_some int) (is_some aux) && made_row_stands (hidden-the_row-Build-0 bs)) (counted bs)
    ∙ ap (λ b. may_stand o (length bs) (is_some int) (is_some aux) && b) (each bs)
  where
    counted : (qs : List Build) → made_count (hidden-the_row-Build-0 qs) ≡ length qs
    counted [] = refl
    counted (q ∷ qs) = ap suc (counted qs)

    each : (qs : List Build) → made_row_stands (hidden-the_row-Build-0 qs) ≡ list_all build_stands qs
    each [] = refl
    each (q ∷ qs) = ap (λ b. build_stands q && b) (each qs)

-- ---- what variables stand for
pub sorts_of_node : (name : Option ℕ) (o : Op) (ty : Option ℕ) (int : Option IntPart) (aux : Option ℕ) (ps : List Pattern) →
    pattern_sorts (roll-Pattern (Pattern-F.Node name o ty int aux ps))
    ≡ said name sort.Value ++ (said ty sort.Type ++ (said (variable_of_int int) sort.Int ++ (said aux (sort_of_aux o) ++ patterns_sorts ps)))
unfolding opened patterns_sorts
sorts_of_node name o ty int aux ps = ap (λ t. said name sort.Value ++ (said ty sort.Type ++ (said (variable_of_int int) sort.Int ++ (said aux (sort_of_aux o) ++ t)))) (each ps)
  where
    each : (qs : List Pattern) → row_sorts (hidden-the_row-Pattern-0 qs) ≡ patterns_sorts qs
    each [] = refl
    each (q ∷ qs) = ap (λ t. pattern_sorts q ++ t) (each qs)

pub sorts_of_call : (f : Fun) (xs : List Expr) (s : Sort) → expr_sorts (roll-Expr (Expr-F.Call f xs)) s ≡ exprs_sorts xs (sort_of_operand f)
unfolding opened exprs_sorts
sorts_of_call f xs s = each xs
  where
    each : (ys : List Expr) → operand_sorts (hidden-the_row-Expr-0 ys) (sort_of_operand f) ≡ exprs_sorts ys (sort_of_operand f)
    each [] = refl
    each (y ∷ ys) = ap (λ t. expr_sorts y (sort_of_operand f) ++ t) (each ys)

pub sorts_of_build : (o : Op) (ty : Option TyPart) (int : Option Expr) (aux : Option ℕ) (bs : List Build) →
    build_sorts (roll-Build (Build-F.Node o ty int aux bs)) ≡ said (variable_of_type ty) sort.Type ++ (int_sorts int ++ (said aux (sort_of_aux o) ++ builds_sorts bs))
unfolding opened builds_sorts
sorts_of_build o ty int aux bs = ap (λ t. said (variable_of_type ty) sort.Type ++ (int_sorts int ++ (said aux (sort_of_aux o) ++ t))) (each bs)
  where
    each : (qs : List Build) → made_row_sorts (hidden-the_row-Build-0 qs) ≡ builds_sorts qs
    each [] = refl
    each (q ∷ qs) = ap (λ t. build_sorts q ++ t) (each qs)

-- ---- widths
pub fitting_node : (name : Option ℕ) (o : Op) (ty : Option ℕ) (int : Option IntPart) (aux : Option ℕ) (ps : List Pattern) (c : Class) →
    pattern_fits (roll-Pattern (Pattern-F.Node name o ty int aux ps)) c ≡ (op_fits o c && patterns_fit o 0 ps)
unfolding opened patterns_fit
fitting_node name o ty int aux ps c = ap (λ b. op_fits o c && b) (each ps 0)
  where
    each : (qs : List Pattern) (k : ℕ) → row_fits (hidden-the_row-Pattern-0 qs) o k ≡ patterns_fit o k qs
    each [] k = refl
    each (q ∷ qs) k = ap (λ b. pattern_fits q (class_at o k) && b) (each qs (k + 1))

pub classes_of_node : (name : Option ℕ) (o : Op) (ty : Option ℕ) (int : Option IntPart) (aux : Option ℕ) (ps : List Pattern) (c : Class) →
    pattern_classes (roll-Pattern (Pattern-F.Node name o ty int aux ps)) c ≡ said name c ++ (said ty c ++ patterns_classes o 0 ps)
unfolding opened patterns_classes
classes_of_node name o ty int aux ps c = ap (λ t. said name c ++ (said ty c ++ t)) (each ps 0)
  where
    each : (qs : List Pattern) (k : ℕ) → row_classes (hidden-the_row-Pattern-0 qs) o k ≡ patterns_classes o k qs
    each [] k = refl
    each (q ∷ qs) k = ap (λ t. pattern_classes q (class_at o k) ++ t) (each qs (k + 1))

pub fitting_build : (o : Op) (ty : Option TyPart) (int : Option Expr) (aux : Option ℕ) (bs : List Build) (c : Class) →
    build_fits (roll-Build (Build-F.Node o ty int aux bs)) c ≡ (head_fits o ty c && builds_fit o 0 bs)
unfolding opened builds_fit
fitting_build o ty int aux bs c = ap (λ b. head_fits o ty c && b) (each bs 0)
  where
    each : (qs : List Build) (k : ℕ) → made_row_fits (hidden-the_row-Build-0 qs) o k ≡ builds_fit o k qs
    each [] k = refl
    each (q ∷ qs) k = ap (λ b. build_fits q (class_at o k) && b) (each qs (k + 1))

pub classes_of_build : (o : Op) (ty : Option TyPart) (int : Option Expr) (aux : Option ℕ) (bs : List Build) (c : Class) →
    build_classes (roll-Build (Build-F.Node o ty int aux bs)) c ≡ said (variable_of_type ty) c ++ builds_classes o 0 bs
unfolding opened builds_classes
classes_of_build o ty int aux bs c = ap (λ t. said (variable_of_type ty) c ++ t) (each bs 0)
  where
    each : (qs : List Build) (k : ℕ) → made_row_classes (hidden-the_row-Build-0 qs) o k ≡ builds_classes o k qs
    each [] k = refl
    each (q ∷ qs) k = ap (λ t. build_classes q (class_at o k) ++ t) (each qs (k + 1))

-- ---- loops that test each argument for its place
pub fits_on : (o : Op) (ps : List Pattern) (i : ℕ) (p : Pattern) (b : Bool) → patterns_fit o i (drop i ps) ≡ b → i < length ps → p ≡ get_or ps i p → pattern_fits p (class_at o i) ≡ true → patterns_fit o (i + 1) (drop (i + 1) ps) ≡ b
unfolding patterns_fit
fits_on o ps i p b h l e t = sym (ap (λ c. c && patterns_fit o (i + 1) (drop (i + 1) ps)) t) ∙ sym (ap (patterns_fit o i) (front_of ps i p l e)) ∙ h

pub fits_not : (o : Op) (ps : List Pattern) (i : ℕ) (p : Pattern) (b : Bool) → patterns_fit o i (drop i ps) ≡ b → i < length ps → p ≡ get_or ps i p → pattern_fits p (class_at o i) ≡ false → b ≡ false
unfolding patterns_fit
fits_not o ps i p b h l e t = sym h ∙ ap (patterns_fit o i) (front_of ps i p l e) ∙ ap (λ c. c && patterns_fit o (i + 1) (drop (i + 1) ps)) t

pub all_fit : (o : Op) (ps : List Pattern) (i : ℕ) (b : Bool) → patterns_fit o i (drop i ps) ≡ b → length ps ≤ i → b ≡ true
unfolding patterns_fit
all_fit o ps i b h l = sym h ∙ ap (patterns_fit o i) (drop_all i ps l)

pub made_fits_on : (o : Op) (bs : List Build) (i : ℕ) (t : Build) (b : Bool) → builds_fit o i (drop i bs) ≡ b → i < length bs → t ≡ get_or bs i t → build_fits t (class_at o i) ≡ true → builds_fit o (i + 1) (drop (i + 1) bs) ≡ b
unfolding builds_fit
made_fits_on o bs i t b h l e g = sym (ap (λ c. c && builds_fit o (i + 1) (drop (i + 1) bs)) g) ∙ sym (ap (builds_fit o i) (front_of bs i t l e)) ∙ h

pub made_fits_not : (o : Op) (bs : List Build) (i : ℕ) (t : Build) (b : Bool) → builds_fit o i (drop i bs) ≡ b → i < length bs → t ≡ get_or bs i t → build_fits t (class_at o i) ≡ false → b ≡ false
unfolding builds_fit
made_fits_not o bs i t b h l e g = sym h ∙ ap (builds_fit o i) (front_of bs i t l e) ∙ ap (λ c. c && builds_fit o (i + 1) (drop (i + 1) bs)) g

pub all_made_fit : (o : Op) (bs : List Build) (i : ℕ) (b : Bool) → builds_fit o i (drop i bs) ≡ b → length bs ≤ i → b ≡ true
unfolding builds_fit
all_made_fit o bs i b h l = sym h ∙ ap (builds_fit o i) (drop_all i bs l)

-- ---- notes of several parts
pub noted : {A T E : Type 0} (r : Result T E) (a x y : List A) → x ≡ y → OnOk r (a ≡ x) → OnOk r (a ≡ y)
noted {A} r a x y e h = let P : List A → Type 0 = λ t. OnOk r (a ≡ t) in subst P e h

pub one_noted : {A : Type 0} (a b x y : List A) → b ≡ a ++ x → b ++ y ≡ a ++ (x ++ y)
one_noted a b x y e = ap (λ t. t ++ y) e ∙ append_assoc a x y

pub two_noted : {A : Type 0} (a b c x y z : List A) → b ≡ a ++ x → c ≡ b ++ y → c ++ z ≡ a ++ (x ++ (y ++ z))
two_noted a b c x y z e h = ap (λ t. t ++ z) (h ∙ ap (λ t. t ++ y) e) ∙ append_assoc (a ++ x) y z ∙ append_assoc a x (y ++ z)

pub three_noted : {A : Type 0} (a b c d x y z w : List A) → b ≡ a ++ x → c ≡ b ++ y → d ≡ c ++ z → d ++ w ≡ a ++ (x ++ (y ++ (z ++ w)))
three_noted a b c d x y z w e h g = ap (λ t. t ++ w) g ∙ append_assoc c z w ∙ two_noted a b c x y (z ++ w) e h

pub four_noted : {A : Type 0} (a b c d f x y z w v : List A) → b ≡ a ++ x → c ≡ b ++ y → d ≡ c ++ z → f ≡ d ++ w → f ++ v ≡ a ++ (x ++ (y ++ (z ++ (w ++ v))))
four_noted a b c d f x y z w v e h g k = ap (λ t. t ++ v) k ∙ append_assoc d w v ∙ three_noted a b c d x y z (w ++ v) e h g

-- ---- a node's test from those of its parts
pub both_hold : (a b d e o : Bool) → a ≡ true → a ≡ d → b ≡ e → o ≡ (d && e) → b ≡ o
both_hold a b d e o h f g k = g ∙ sym (k ∙ ap (λ x. x && e) (sym f ∙ h))

pub one_not : (a d e o : Bool) → a ≡ false → a ≡ d → o ≡ (d && e) → a ≡ o
one_not a d e o h f k = h ∙ sym (k ∙ ap (λ x. x && e) (sym f ∙ h))
