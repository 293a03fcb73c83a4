-- Right trees that are printed are read back.
use Rattle.std.proofs.Common.{◌≡◌, ℕ, zero, suc, ◌+◌, ◌<◌, ◌≤◌, List, [], ◌∷◌, ◌++◌, append_assoc, length, ap, ◌∙◌, refl, arith, Bool, true, false, Option, Some, None, codes}
use Rattle.std.specs.List.{AllByRecursion}
use Rattle.std.specs.Option.{is_some, option_map_or}
use Rattle.std.proofs.lemmas.List.{length-append}
use Rattle.bk_ops.specs.declared.table.Op.{Op}
use Rattle.bk_ops.specs.declared.types.Ty.{Ty}
use Rattle.bk_ops.specs.Names.{name_of}
use Rattle.bk_rule.specs.declared.trees.Expr.{Expr}
use Rattle.bk_rule.specs.declared.trees.TyPart.{TyPart}
use Rattle.bk_rule.specs.declared.trees.TyPart.TheVariants as part
use Rattle.bk_rule.specs.declared.trees.Build.{Build, roll-Build}
use Rattle.bk_rule.specs.declared.trees.Build.TheOpen.{Build-F}
use Rattle.bk_rule.specs.Trees.{named}
use Rattle.bk_rule.proofs.Opened.{opened}
use Rattle.bk_rule_text.specs.Front.{◌>>=◌, Read, unblanked, after, mark_at, closed, where_marked, onto, until_bracket}
use Rattle.bk_rule_text.specs.Layout.{type_name, symbol, variable, in_brackets, is_operation, expr_text, inner_text, aux_text, type_text, int_text, made_text, build_text, builds_text}
use Rattle.bk_rule_text.specs.Names.{Variables, in_scope}
use Rattle.bk_rule_text.specs.Words.{is_word_byte, begins_word, begins_name, name_at, type_of_name, variable_at}
use Rattle.bk_rule_text.specs.Exprs.{products, sums, comparisons, first_of, symbol_at, and_at, operator_at, expr_at}
use Rattle.bk_rule_text.specs.Builds.{type_named, type_in, type_part_at, int_part_at, aux_in, aux_part_at, node_at, bound_at, build_in, build_at}
use Rattle.bk_rule_text.proofs.Printed.{name_back, variable_back, variable_word, variable_name, no_type}
use Rattle.bk_rule_text.proofs.PrintedExprs.{Ends, Named, Written, expr_back}
use Rattle.bk_rule_text.proofs.PrintedPatterns.{OpWritten, op_back, name_solid, closed_by, mark_here, mark_behind, closed_variable, variable_solid, Tail, aux_no_type, aux_no_int, aux_no_word, Closes, by_blank, by_bracket, closes_no_word, Opens, opens, opens_no_end, opens_solid, bracket_mark, variable_no_bracket, plain_brace}
use Rattle.bk_rule_text.proofs.Rows.{text_of_made}

-- ---- parts of a node
pub record TypeWritten (t : Ty) : Type 0 where
  pub back : type_of_name (type_name t) ≡ Some t
  pub words : AllByRecursion (λ c. is_word_byte c ≡ true) (type_name t)
  pub begins : begins_name (type_name t) ≡ true

abbrev pub MadeType : Variables → Option TyPart → Type 0
MadeType s None = Unit {0}
MadeType s (Some (part.Is t)) = TypeWritten t
MadeType s (Some (part.Var i)) = Named s i

abbrev pub MadeInt : Variables → Option Expr → Type 0
MadeInt s None = Unit {0}
MadeInt s (Some x) = Written s x

abbrev pub MadeAux : Variables → Option ℕ → Type 0
MadeAux s None = Unit {0}
MadeAux s (Some i) = Named s i

angle_no_word : (t : List ℕ) → begins_word (62 ∷ t) ≡ false
unfolding begins_word is_word_byte
angle_no_word t = refl

type_given : (s : Variables) (text name t : List ℕ) (p : TyPart) → closed (codes ">") name_at text ≡ Some (name, t) → type_named s name ≡ Some p → type_in s text ≡ Some (Some p, t)
unfolding type_in
type_given s text name t p e h = ap (λ o. o >>= λ n. type_named s n.0 >>= λ q. Some (Some q, n.1)) e ∙ ap (λ o. o >>= λ q. Some (Some q, t)) h

type_marked : (s : Variables) (text r : List ℕ) (o : Option (Option TyPart × List ℕ)) → mark_at (codes "<") text ≡ Some r → type_in s r ≡ o → type_part_at s text ≡ o
unfolding type_part_at
type_marked s text r o e h = ap (λ m. where_marked m (type_in s) (Some (None, text))) e ∙ h

type_unmarked : (s : Variables) (text : List ℕ) → mark_at (codes "<") text ≡ None → type_part_at s text ≡ Some (None, text)
unfolding type_part_at
type_unmarked s text e = ap (λ m. where_marked m (type_in s) (Some (None, text))) e

named_type : (s : Variables) (name : List ℕ) (t : Ty) → type_of_name name ≡ Some t → type_named s name ≡ Some (part.Is t)
unfolding type_named
named_type s name t e = ap (λ o. option_map_or (λ u. Some (part.Is u)) o (in_scope s name >>= λ i. Some (part.Var i))) e

none_of : {A : Type 0} (o : Option A) → is_some o ≡ false → o ≡ None
none_of None h = refl
none_of (Some x) h = absurd (let e : true ≡ false = h in cc)

named_variable : (s : Variables) (i : ℕ) → Named s i → type_named s (variable i) ≡ Some (part.Var i)
unfolding type_named
named_variable s i n =
    ap (λ o. option_map_or (λ u. Some (part.Is u)) o (in_scope s (variable i) >>= λ j. Some (part.Var j))) (none_of (type_of_name (variable i)) (no_type i))
    ∙ ap (λ o. o >>= λ j. Some (part.Var j)) n.found

type_back : (s : Variables) (o : Option TyPart) → MadeType s o → (t : List ℕ) → mark_at (codes "<") t ≡ None → type_part_at s (type_text o ++ t) ≡ Some (o, t)
type_back s None w t e = type_unmarked s t e
type_back s (Some (part.Is u)) w t e =
    let r = (type_name u ++ codes ">") ++ t in
    let a = append_assoc (type_name u) (codes ">") t in
    type_marked s (32 ∷ 60 ∷ r) r (Some (Some (part.Is u), t)) (mark_behind 60 r refl)
    (
    type_given s r (type_name u) t (part.Is u)
    (closed_by 62 name_at r t (type_name u) (name_back r (type_name u) (62 ∷ t) (ap unblanked a ∙ name_solid (type_name u) (62 ∷ t) w.begins) w.words w.begins (angle_no_word t)) (mark_here 62 t refl))
    (named_type s (type_name u) u w.back)
    )
type_back s (Some (part.Var i)) w t e =
    let r = (variable i ++ codes ">") ++ t in
    let a = append_assoc (variable i) (codes ">") t in
    type_marked s (32 ∷ 60 ∷ r) r (Some (Some (part.Var i), t)) (mark_behind 60 r refl)
    (
    type_given s r (variable i) t (part.Var i)
    (closed_by 62 name_at r t (variable i) (name_back r (variable i) (62 ∷ t) (ap unblanked a ∙ variable_solid i (62 ∷ t)) (variable_word i w.small) (variable_name i) (angle_no_word t)) (mark_here 62 t refl))
    (named_variable s i w)
    )

pub square_ends : (rest : List ℕ) → Ends (93 ∷ rest)
unfolding begins_word mark_at unblanked after operator_at symbol_at and_at first_of products sums comparisons symbol is_word_byte
square_ends rest = record { stops = record { word = refl; dot = refl; bracket = refl }; product = refl; sum = refl; comparison = refl }

int_marked : (s : Variables) (n : ℕ) (text r t : List ℕ) (x : Expr) → mark_at (codes "[") text ≡ Some r → closed (codes "]") (expr_at s n) r ≡ Some (x, t) → int_part_at s n text ≡ Some (Some x, t)
unfolding int_part_at
int_marked s n text r t x e h =
    ap (λ m. where_marked m (λ q. closed (codes "]") (expr_at s n) q >>= λ y. Some (Some y.0, y.1)) (Some (None, text))) e ∙ ap (λ o. o >>= λ y. Some (Some y.0, y.1)) h

int_unmarked : (s : Variables) (n : ℕ) (text : List ℕ) → mark_at (codes "[") text ≡ None → int_part_at s n text ≡ Some (None, text)
unfolding int_part_at
int_unmarked s n text e = ap (λ m. where_marked m (λ q. closed (codes "]") (expr_at s n) q >>= λ y. Some (Some y.0, y.1)) (Some (None, text))) e

-- brackets around an operation are two bytes
bracketed_short : (b : Bool) (t : List ℕ) → length (in_brackets b t) ≤ length t + 2
bracketed_short true t = omega (arith, length-append t (codes ")"))
bracketed_short false t = omega arith

pub inner_short : (x : Expr) → length (inner_text x) ≤ length (expr_text x) + 2
inner_short x = bracketed_short (is_operation x) (expr_text x)

int_back : (s : Variables) (n : ℕ) (o : Option Expr) → MadeInt s o → length (int_text o) ≤ n → (t : List ℕ) → mark_at (codes "[") t ≡ None → int_part_at s n (int_text o ++ t) ≡ Some (o, t)
int_back s n None w l t e = int_unmarked s n t e
int_back s n (Some x) w l t e =
    let r = (expr_text x ++ codes "]") ++ t in
    let a = append_assoc (expr_text x) (codes "]") t in
    let i = inner_short x in
    let j : length (int_text (Some x)) ≡ 2 + (length (expr_text x) + 1) = ap (λ k. suc (suc k)) (length-append (expr_text x) (codes "]")) ∙ (omega arith) in
    int_marked s n (32 ∷ 91 ∷ r) r t x (mark_behind 91 r refl)
    (closed_by 93 (expr_at s n) r t x (ap (expr_at s n) a ∙ expr_back s x w n (93 ∷ t) (omega arith) (square_ends t)) (mark_here 93 t refl))

aux_marked : (s : Variables) (text r name t : List ℕ) (i : ℕ) → mark_at (codes "{") text ≡ Some r → closed (codes "}") variable_at r ≡ Some (name, t) → in_scope s name ≡ Some i → aux_part_at s text ≡ Some (Some i, t)
unfolding aux_part_at aux_in
aux_marked s text r name t i e h g =
    ap (λ m. where_marked m (aux_in s) (Some (None, text))) e
    ∙ ap (λ o. o >>= λ n. in_scope s n.0 >>= λ j. Some (Some j, n.1)) h
    ∙ ap (λ o. o >>= λ j. Some (Some j, t)) g

aux_unmarked : (s : Variables) (text : List ℕ) → mark_at (codes "{") text ≡ None → aux_part_at s text ≡ Some (None, text)
unfolding aux_part_at
aux_unmarked s text e = ap (λ m. where_marked m (aux_in s) (Some (None, text))) e

aux_back : (s : Variables) (o : Option ℕ) → MadeAux s o → (t : List ℕ) → mark_at (codes "{") t ≡ None → aux_part_at s (aux_text o ++ t) ≡ Some (o, t)
aux_back s None w t e = aux_unmarked s t e
aux_back s (Some i) w t e =
    let r = (variable i ++ codes "}") ++ t in
    aux_marked s (32 ∷ 123 ∷ r) r (variable i) t i (mark_behind 123 r refl) (closed_variable 125 i t w.small plain_brace refl) w.found

-- ---- nodes
abbrev pub made : Op → Option TyPart → Option Expr → Option ℕ → List Build → Build
made o ty int aux bs = roll-Build (Build-F.Node o ty int aux bs)

-- right trees in a row, over these variables
pub data Rights (s : Variables) : List Build → Type 0 where
  no_right : Rights s []
  var_right : (i : ℕ) (bs : List Build) → Named s i → Rights s bs → Rights s (named i ∷ bs)
  node_right : (o : Op) (ty : Option TyPart) (int : Option Expr) (aux : Option ℕ) (args bs : List Build) → OpWritten o → MadeType s ty → MadeInt s int → MadeAux s aux → Rights s args → Rights s bs → Rights s (made o ty int aux args ∷ bs)

int_no_type : (o : Option Expr) (t : List ℕ) → mark_at (codes "<") t ≡ None → mark_at (codes "<") (int_text o ++ t) ≡ None
unfolding mark_at unblanked after
int_no_type None t h = h
int_no_type (Some x) t h = refl

int_no_word : (o : Option Expr) (t : List ℕ) → begins_word t ≡ false → begins_word (int_text o ++ t) ≡ false
unfolding begins_word is_word_byte
int_no_word None t h = h
int_no_word (Some x) t h = refl

type_no_word : (o : Option TyPart) (t : List ℕ) → begins_word t ≡ false → begins_word (type_text o ++ t) ≡ false
unfolding begins_word is_word_byte
type_no_word None t h = h
type_no_word (Some (part.Is u)) t h = refl
type_no_word (Some (part.Var i)) t h = refl

made_around : (o : Op) (ty : Option TyPart) (int : Option Expr) (aux : Option ℕ) (t : List ℕ) → made_text o ty int aux ++ t ≡ 40 ∷ (name_of o ++ (type_text ty ++ (int_text int ++ (aux_text aux ++ t))))
unfolding made_text
made_around o ty int aux t =
    ap (λ v. 40 ∷ v)
    (
    append_assoc (name_of o) (type_text ty ++ (int_text int ++ aux_text aux)) t
    ∙ ap (λ v. name_of o ++ v) (append_assoc (type_text ty) (int_text int ++ aux_text aux) t ∙ ap (λ v. type_text ty ++ v) (append_assoc (int_text int) (aux_text aux) t))
    )

node_back : (s : Variables) (n : ℕ) (read : Read Build) (o : Op) (ty : Option TyPart) (int : Option Expr) (aux : Option ℕ) (args : List Build) (t rest : List ℕ) → OpWritten o → MadeType s ty → MadeInt s int → MadeAux s aux → length (int_text int) ≤ n → Tail t
    → until_bracket read (length t) t ≡ Some (args, rest) → node_at s n read (name_of o ++ (type_text ty ++ (int_text int ++ (aux_text aux ++ t)))) ≡ Some (made o ty int aux args, rest)
unfolding node_at
node_back s n read o ty int aux args t rest w h g f l tail e =
    let x = aux_text aux ++ t in
    let i = int_text int ++ x in
    let v = type_text ty ++ i in
    ap (λ p. p >>= λ q. type_part_at s q.1 >>= λ r. int_part_at s n r.1 >>= λ u. aux_part_at s u.1 >>= λ y. until_bracket read (length y.1) y.1 >>= λ z. Some (made q.0 r.0 u.0 y.0 z.0, z.1))
    (op_back o w v (type_no_word ty i (int_no_word int x (aux_no_word aux t tail))))
    ∙ ap (λ p. p >>= λ r. int_part_at s n r.1 >>= λ u. aux_part_at s u.1 >>= λ y. until_bracket read (length y.1) y.1 >>= λ z. Some (made o r.0 u.0 y.0 z.0, z.1))
    (type_back s ty h i (int_no_type int x (aux_no_type aux t tail)))
    ∙ ap (λ p. p >>= λ u. aux_part_at s u.1 >>= λ y. until_bracket read (length y.1) y.1 >>= λ z. Some (made o ty u.0 y.0 z.0, z.1)) (int_back s n int g l x (aux_no_int aux t tail))
    ∙ ap (λ p. p >>= λ y. until_bracket read (length y.1) y.1 >>= λ z. Some (made o ty int y.0 z.0, z.1)) (aux_back s aux f t tail.aux)
    ∙ ap (λ p. p >>= λ z. Some (made o ty int aux z.0, z.1)) e

deeper : (s : Variables) (m : ℕ) (text : List ℕ) → build_at s (suc m) text ≡ build_in s m (build_at s m) text
unfolding build_at
deeper s m text = refl

in_node : (s : Variables) (n : ℕ) (read : Read Build) (text t : List ℕ) → unblanked text ≡ 40 ∷ t → build_in s n read text ≡ node_at s n read t
unfolding build_in
in_node s n read text t e = ap (λ o. where_marked o (node_at s n read) (bound_at s text)) (bracket_mark text t e)

var_back : (s : Variables) (n : ℕ) (read : Read Build) (i : ℕ) (text t : List ℕ) → Named s i → unblanked text ≡ variable i ++ t → begins_word t ≡ false → build_in s n read text ≡ Some (named i, t)
unfolding build_in bound_at
var_back s n read i text t w e b =
    ap (λ o. where_marked o (node_at s n read) (bound_at s text)) (variable_no_bracket i text t e)
    ∙ ap (λ o. o >>= λ p. in_scope s p.0 >>= λ j. Some (named j, p.1)) (variable_back i text t w.small e b)
    ∙ ap (λ o. o >>= λ j. Some (named j, t)) w.found

-- ---- rows of trees
pub named_text : (i : ℕ) → build_text (named i) ≡ variable i
unfolding opened
named_text i = refl

pub named_opens : (i : ℕ) (t : List ℕ) → Opens (build_text (named i) ++ t)
unfolding opened variable
named_opens i t = opens 120 _ refl refl

pub made_opens : (o : Op) (ty : Option TyPart) (int : Option Expr) (aux : Option ℕ) (args : List Build) (t : List ℕ) → Opens (build_text (made o ty int aux args) ++ t)
unfolding opened made_text
made_opens o ty int aux args t = opens 40 _ refl refl

row_closes : (s : Variables) (bs : List Build) (rest : List ℕ) → Rights s bs → Closes (builds_text bs ++ (41 ∷ rest))
unfolding opened builds_text made_text variable
row_closes s bs rest no_right = by_bracket rest
row_closes s bs rest (var_right i cs n h) = by_blank 120 _ refl refl
row_closes s bs rest (node_right o ty int aux args cs w h g f d c) = by_blank 40 _ refl refl

row_tail : (s : Variables) (bs : List Build) (rest : List ℕ) → Rights s bs → Tail (builds_text bs ++ (41 ∷ rest))
unfolding opened builds_text made_text variable begins_word is_word_byte mark_at unblanked after
row_tail s bs rest no_right = record { word = refl; type = refl; int = refl; aux = refl }
row_tail s bs rest (var_right i cs n h) = record { word = refl; type = refl; int = refl; aux = refl }
row_tail s bs rest (node_right o ty int aux args cs w h g f d c) = record { word = refl; type = refl; int = refl; aux = refl }

row_text : (b : Build) (bs : List Build) (t : List ℕ) → builds_text (b ∷ bs) ++ t ≡ 32 ∷ (build_text b ++ (builds_text bs ++ t))
unfolding builds_text
row_text b bs t = ap (λ v. 32 ∷ v) (append_assoc (build_text b) (builds_text bs) t)

abbrev after_end : Read Build → ℕ → List ℕ → Option (List ℕ) → Option (List Build × List ℕ)
after_end read n text o = where_marked o (λ r. Some ([], r)) (read text >>= λ x. onto x.0 (until_bracket read n x.1))

row_ends : (read : Read Build) (n : ℕ) (rest : List ℕ) → until_bracket read (suc n) (builds_text [] ++ (41 ∷ rest)) ≡ Some ([], rest)
unfolding until_bracket builds_text
row_ends read n rest = ap (after_end read n (41 ∷ rest)) (mark_here 41 rest refl)

row_goes_on : (read : Read Build) (n : ℕ) (text t rest : List ℕ) (b : Build) (bs : List Build) → mark_at (codes ")") text ≡ None → read text ≡ Some (b, t) → until_bracket read n t ≡ Some (bs, rest) → until_bracket read (suc n) text ≡ Some (b ∷ bs, rest)
unfolding until_bracket
row_goes_on read n text t rest b bs e h g =
    ap (after_end read n text) e
    ∙ ap (λ o. o >>= λ x. onto x.0 (until_bracket read n x.1)) h
    ∙ ap (λ o. onto b o) g

-- ---- lengths
long_plain : (o p i x q d r : List ℕ) (m : ℕ) → d ≡ (40 ∷ (o ++ (p ++ (i ++ x)))) ++ (q ++ codes ")") → length (32 ∷ (d ++ r)) ≤ m → (length q + 2 ≤ m) × (length r + 1 ≤ m) × (length i + 2 ≤ m)
long_plain o p i x q d r m e h =
    let s : length d ≡ suc (length o + (length p + (length i + length x))) + (length q + 1) = simp (length-append) at (ap length e) in
    let u : suc (length d + length r) ≤ m = simp (length-append) at h in
    (omega arith, omega arith, omega arith)

long_made : (o : Op) (ty : Option TyPart) (int : Option Expr) (aux : Option ℕ) (args bs : List Build) (m : ℕ) → length (builds_text (made o ty int aux args ∷ bs)) ≤ m → (length (builds_text args) + 2 ≤ m) × (length (builds_text bs) + 1 ≤ m) × (length (int_text int) + 2 ≤ m)
unfolding builds_text made_text
long_made o ty int aux args bs m h = long_plain (name_of o) (type_text ty) (int_text int) (aux_text aux) (builds_text args) (build_text (made o ty int aux args)) (builds_text bs) m (text_of_made o ty int aux args) h

long_rest : (b : Build) (bs : List Build) (m : ℕ) → length (builds_text (b ∷ bs)) ≤ m → length (builds_text bs) + 1 ≤ m
unfolding builds_text
long_rest b bs m h = let u : 1 + length (build_text b) + length (builds_text bs) ≤ m = simp (length-append) at h in omega arith

row_long : (bs : List Build) → length bs ≤ length (builds_text bs)
row_long [] = omega arith
row_long (b ∷ bs) = let h = long_rest b bs (length (builds_text (b ∷ bs))) (omega arith) in let g = row_long bs in omega arith

-- a node, where its arguments are read back
made_back : (s : Variables) (m : ℕ) (read : Read Build) (o : Op) (ty : Option TyPart) (int : Option Expr) (aux : Option ℕ) (args : List Build) (text t : List ℕ) → OpWritten o → MadeType s ty → MadeInt s int → MadeAux s aux → Rights s args → length (int_text int) ≤ m
    → unblanked text ≡ build_text (made o ty int aux args) ++ t → until_bracket read (length (builds_text args ++ (41 ∷ t))) (builds_text args ++ (41 ∷ t)) ≡ Some (args, t) → build_in s m read text ≡ Some (made o ty int aux args, t)
made_back s m read o ty int aux args text t w h g f d l e q =
    let a = builds_text args ++ (41 ∷ t) in
    let inside = name_of o ++ (type_text ty ++ (int_text int ++ (aux_text aux ++ a))) in
    in_node s m read text inside
    (
    e ∙ ap (λ v. v ++ t) (text_of_made o ty int aux args) ∙ append_assoc (made_text o ty int aux) (builds_text args ++ codes ")") t ∙ ap (λ v. made_text o ty int aux ++ v) (append_assoc (builds_text args) (codes ")") t)
    ∙ made_around o ty int aux a
    )
    ∙ node_back s m read o ty int aux args a t w h g f l (row_tail s args t d) q

-- ---- all rows of right trees
pub rights_back : (s : Variables) (bs : List Build) → Rights s bs → (m n : ℕ) → length (builds_text bs) ≤ m → length bs < n → (rest : List ℕ) → until_bracket (build_at s m) n (builds_text bs ++ (41 ∷ rest)) ≡ Some (bs, rest)
rights_back s bs h m zero long few rest = absurd (omega arith)
rights_back s bs no_right m (suc n) long few rest = row_ends (build_at s m) n rest
rights_back s bs (var_right i cs w h) zero (suc n) long few rest = absurd (let q = long_rest (named i) cs zero long in omega arith)
rights_back s bs (var_right i cs w h) (suc m) (suc n) long few rest =
    let t = builds_text cs ++ (41 ∷ rest) in
    let q = long_rest (named i) cs (suc m) long in
    let o = named_opens i t in
    ap (until_bracket (build_at s (suc m)) (suc n)) (row_text (named i) cs (41 ∷ rest))
    ∙ row_goes_on (build_at s (suc m)) n (32 ∷ (build_text (named i) ++ t)) t rest (named i) cs (opens_no_end (build_text (named i) ++ t) o)
    (deeper s m (32 ∷ (build_text (named i) ++ t)) ∙ var_back s m (build_at s m) i (32 ∷ (build_text (named i) ++ t)) t w (opens_solid (build_text (named i) ++ t) o ∙ ap (λ x. x ++ t) (named_text i)) (closes_no_word t (row_closes s cs rest h)))
    (rights_back s cs h (suc m) n (omega arith) (omega arith) rest)
rights_back s bs (node_right o ty int aux args cs w h g f d c) zero (suc n) long few rest = absurd (let q = long_rest (made o ty int aux args) cs zero long in omega arith)
rights_back s bs (node_right o ty int aux args cs w h g f d c) (suc m) (suc n) long few rest =
    let b = made o ty int aux args in
    let t = builds_text cs ++ (41 ∷ rest) in
    let q = long_made o ty int aux args cs (suc m) long in
    let p = made_opens o ty int aux args t in
    let more = row_long args in
    let few_args : length args < length (builds_text args ++ (41 ∷ t)) = omega (arith, length-append (builds_text args) (41 ∷ t)) in
    ap (until_bracket (build_at s (suc m)) (suc n)) (row_text b cs (41 ∷ rest))
    ∙ row_goes_on (build_at s (suc m)) n (32 ∷ (build_text b ++ t)) t rest b cs (opens_no_end (build_text b ++ t) p)
    (
    deeper s m (32 ∷ (build_text b ++ t))
    ∙ made_back s m (build_at s m) o ty int aux args (32 ∷ (build_text b ++ t)) t w h g f d (omega (arith, q.2)) (opens_solid (build_text b ++ t) p)
    (rights_back s args d m (length (builds_text args ++ (41 ∷ t))) (omega (arith, q.0)) few_args t)
    )
    (rights_back s cs c (suc m) n (omega (arith, q.1)) (omega arith) rest)

-- a tree alone
pub right_alone : (s : Variables) (b : Build) → Rights s (b ∷ []) → (m : ℕ) → length (builds_text (b ∷ [])) ≤ m → (text t : List ℕ) → unblanked text ≡ build_text b ++ t → begins_word t ≡ false → build_at s m text ≡ Some (b, t)
right_alone s b (var_right i cs w h) zero long text t e c = absurd (let q = long_rest (named i) [] zero long in omega arith)
right_alone s b (var_right i cs w h) (suc m) long text t e c = deeper s m text ∙ var_back s m (build_at s m) i text t w (e ∙ ap (λ x. x ++ t) (named_text i)) c
right_alone s b (node_right o ty int aux args cs w h g f d r) zero long text t e c = absurd (let q = long_rest (made o ty int aux args) [] zero long in omega arith)
right_alone s b (node_right o ty int aux args cs w h g f d r) (suc m) long text t e c =
    let q = long_made o ty int aux args [] (suc m) long in
    let more = row_long args in
    let few_args : length args < length (builds_text args ++ (41 ∷ t)) = omega (arith, length-append (builds_text args) (41 ∷ t)) in
    deeper s m text
    ∙ made_back s m (build_at s m) o ty int aux args text t w h g f d (omega (arith, q.2)) e (rights_back s args d m (length (builds_text args ++ (41 ∷ t))) (omega (arith, q.0)) few_args t)
