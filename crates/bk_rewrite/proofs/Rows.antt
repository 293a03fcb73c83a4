-- Right trees whose arguments are a list, and the loop that makes them.
use Rattle.std.proofs.Common.{◌≡◌, ℕ, suc, ◌+◌, ◌<◌, ◌≤◌, refl, ap, sym, ◌∙◌, add-one, add_assoc, append_assoc, arith, List, [], ◌∷◌, ◌++◌, length, length-append, get_or, drop, drop-cons, Option}
use Rattle.std.specs.Prelude.{ℤ, Result, Ok, Err, IfErr}
use Rattle.std.specs.Result.{IsErrAnd}
use Rattle.std.proofs.lemmas.List.{drop_all, append-nil}
use Rattle.bk_ops.specs.declared.table.Op.{Op}
use Rattle.bk_ops.specs.declared.types.Ty.{Ty}
use Rattle.bk_func.specs.declared.parts.Aux.{Aux}
use Rattle.bk_func.specs.Records.{ValueRecord}
use Rattle.bk_func.specs.Edits.{value_of}
use Rattle.bk_rewrite.specs.declared.making.Stop.{Stop}
use Rattle.bk_rewrite.specs.declared.making.Stop.TheVariants as stop
use Rattle.bk_rule.specs.declared.trees.TyPart.{TyPart}
use Rattle.bk_rule.specs.declared.trees.Expr.{Expr}
use Rattle.bk_rule.specs.declared.trees.Build.{Build, roll-Build}
use Rattle.bk_rule.specs.declared.trees.Build.TheOpen.{Build-F}
use Rattle.bk_rule.specs.declared.trees.Build.TheBlock.{hidden-the_row-Build-0}
use Rattle.bk_rule.proofs.Opened.{opened}
use Rattle.bk_rewrite.specs.Making.{Source, node_made, result_type, values_made, row_made, name_made, row_names, each_made, each_name, inner_made, root_made}

row_is : (s : Source) (xs : List Build) (n : ℕ) → row_made s (hidden-the_row-Build-0 xs) n ≡ each_made s xs n
unfolding opened each_made
row_is s [] n = refl
row_is s (x ∷ xs) n = ap (λ r. values_made s x n ++ r) (row_is s xs (n + length (values_made s x n)))

names_are : (s : Source) (xs : List Build) (n : ℕ) → row_names s (hidden-the_row-Build-0 xs) n ≡ each_name s xs n
unfolding opened each_name
names_are s [] n = refl
names_are s (x ∷ xs) n = ap (λ r. name_made s x n ∷ r) (names_are s xs (n + length (values_made s x n)))

pub made_of_node : (s : Source) (o : Op) (t : Option TyPart) (x : Option Expr) (a : Option ℕ) (xs : List Build) (n : ℕ) →
    values_made s (roll-Build (Build-F.Node o t x a xs)) n
    ≡ each_made s xs n ++ node_made s (n + length (each_made s xs n)) (result_type o) o t x a (each_name s xs n) ∷ []
unfolding opened
made_of_node s o t x a xs n =
    ap (λ r. r ++ node_made s (n + length r) (result_type o) o t x a (row_names s (hidden-the_row-Build-0 xs) n) ∷ []) (row_is s xs n)
    ∙ ap (λ ns. each_made s xs n ++ node_made s (n + length (each_made s xs n)) (result_type o) o t x a ns ∷ []) (names_are s xs n)

pub name_of_node : (s : Source) (o : Op) (t : Option TyPart) (x : Option Expr) (a : Option ℕ) (xs : List Build) (n : ℕ) →
    name_made s (roll-Build (Build-F.Node o t x a xs)) n ≡ n + length (each_made s xs n)
unfolding opened
name_of_node s o t x a xs n = ap (λ r. n + length r) (row_is s xs n)

pub inner_of_node : (s : Source) (o : Op) (t : Option TyPart) (x : Option Expr) (a : Option ℕ) (xs : List Build) (n : ℕ) →
    inner_made s (roll-Build (Build-F.Node o t x a xs)) n ≡ each_made s xs n
unfolding opened
inner_of_node s o t x a xs n = row_is s xs n

pub root_of_node : (s : Source) (id : ℕ) (old : Ty) (o : Op) (t : Option TyPart) (x : Option Expr) (a : Option ℕ) (xs : List Build) (n : ℕ) →
    root_made s id old (roll-Build (Build-F.Node o t x a xs)) n ≡ node_made s id old o t x a (each_name s xs n)
unfolding opened
root_of_node s id old o t x a xs n = ap (node_made s id old o t x a) (names_are s xs n)

-- ---- the loop
front : (xs : List Build) (i : ℕ) (x : Build) → i < length xs → x ≡ get_or xs i x → x ∷ drop (i + 1) xs ≡ drop i xs
front xs i x l e = rw add-one (ap (λ y. y ∷ drop (suc i) xs) e ∙ sym (drop-cons xs i x l))

pub made_step : (s : Source) (xs : List Build) (i g : ℕ) (x : Build) (made more r : List ValueRecord) →
    made ++ each_made s (drop i xs) (g + length made) ≡ r → i < length xs → x ≡ get_or xs i x →
    more ≡ made ++ values_made s x (g + length made) → more ++ each_made s (drop (i + 1) xs) (g + length more) ≡ r
unfolding each_made
made_step s xs i g x made more r h l e d =
    let v : List ValueRecord = values_made s x (g + length made) in
    let k : g + length more ≡ g + length made + length v = ap (λ m. g + length m) d ∙ (ap (λ m. g + m) (length-append made v) ∙ sym (add_assoc g (length made) (length v))) in
    ap (λ m. more ++ each_made s (drop (i + 1) xs) m) k
    ∙ (ap (λ m. m ++ each_made s (drop (i + 1) xs) (g + length made + length v)) d
    ∙ (append_assoc made v (each_made s (drop (i + 1) xs) (g + length made + length v))
    ∙ (ap (λ ys. made ++ each_made s ys (g + length made)) (front xs i x l e) ∙ h)))

pub name_step : (s : Source) (xs : List Build) (i g : ℕ) (x : Build) (made more : List ValueRecord) (ids ids' r : List ℕ) →
    ids ++ each_name s (drop i xs) (g + length made) ≡ r → i < length xs → x ≡ get_or xs i x →
    more ≡ made ++ values_made s x (g + length made) → ids' ≡ ids ++ name_made s x (g + length made) ∷ [] →
    ids' ++ each_name s (drop (i + 1) xs) (g + length more) ≡ r
unfolding each_name
name_step s xs i g x made more ids ids' r h l e d q =
    let v : List ValueRecord = values_made s x (g + length made) in
    let k : g + length more ≡ g + length made + length v = ap (λ m. g + length m) d ∙ (ap (λ m. g + m) (length-append made v) ∙ sym (add_assoc g (length made) (length v))) in
    ap (λ m. ids' ++ each_name s (drop (i + 1) xs) m) k
    ∙ (ap (λ m. m ++ each_name s (drop (i + 1) xs) (g + length made + length v)) q
    ∙ (append_assoc ids (name_made s x (g + length made) ∷ []) (each_name s (drop (i + 1) xs) (g + length made + length v))
    ∙ (ap (λ ys. ids ++ each_name s ys (g + length made)) (front xs i x l e) ∙ h)))

pub made_end : (s : Source) (xs : List Build) (i g : ℕ) (made r : List ValueRecord) →
    made ++ each_made s (drop i xs) (g + length made) ≡ r → length xs ≤ i → made ≡ r
unfolding each_made
made_end s xs i g made r h l =
    sym (append-nil made) ∙ (ap (λ ys. made ++ each_made s ys (g + length made)) (sym (drop_all i xs l)) ∙ h)

pub name_end : (s : Source) (xs : List Build) (i g : ℕ) (made : List ValueRecord) (ids r : List ℕ) →
    ids ++ each_name s (drop i xs) (g + length made) ≡ r → length xs ≤ i → ids ≡ r
unfolding each_name
name_end s xs i g made ids r h l =
    sym (append-nil ids) ∙ (ap (λ ys. ids ++ each_name s ys (g + length made)) (sym (drop_all i xs l)) ∙ h)

-- where one tree needs more room than there is, so do all
pub grown_at : (s : Source) (xs : List Build) (i g room : ℕ) (x : Build) (made start all : List ValueRecord) →
    made ++ each_made s (drop i xs) (g + length made) ≡ start ++ all → i < length xs → x ≡ get_or xs i x →
    room < length made + length (values_made s x (g + length made)) → room < length start + length all
unfolding each_made
grown_at s xs i g room x made start all h l e d =
    let v : List ValueRecord = values_made s x (g + length made) in
    let rest : List ValueRecord = each_made s (drop (i + 1) xs) (g + length made + length v) in
    let k : made ++ (v ++ rest) ≡ start ++ all = ap (λ ys. made ++ each_made s ys (g + length made)) (front xs i x l e) ∙ h in
    omega (arith, ap length k, length-append made (v ++ rest), length-append v rest, length-append start all)

-- ---- a node whose arguments are made
at_zero : (g : ℕ) (old : List ValueRecord) → old ≡ [] → g + length old ≡ g
at_zero g old z = (let e : length old ≡ 0 = ap length z in omega (arith, e))

pub grows_node : (s : Source) (b : Build) (o : Op) (t : Option TyPart) (x : Option Expr) (a : Option ℕ) (xs sl : List Build) (n room k : ℕ) →
    b ≡ roll-Build (Build-F.Node o t x a xs) → sl ≡ xs → room ≤ k + length (each_made s sl n) → room < k + length (values_made s b n)
grows_node s b o t x a xs sl n room k is q h =
    let v : ValueRecord = node_made s (n + length (each_made s xs n)) (result_type o) o t x a (each_name s xs n) in
    let e : length (values_made s b n) ≡ length (each_made s xs n ++ v ∷ []) = ap length (ap (λ c. values_made s c n) is ∙ made_of_node s o t x a xs n) in
    let d : length (each_made s sl n) ≡ length (each_made s xs n) = ap (λ ys. length (each_made s ys n)) q in
    let f : length (each_made s xs n ++ v ∷ []) ≡ length (each_made s xs n) + 1 = length-append (each_made s xs n) (v ∷ []) in
    omega (arith, h, e, d, f)

pub name_is : (s : Source) (b : Build) (o : Op) (t : Option TyPart) (x : Option Expr) (a : Option ℕ) (xs sl : List Build) (n k : ℕ) →
    b ≡ roll-Build (Build-F.Node o t x a xs) → sl ≡ xs → k ≡ n + length (each_made s sl n) → k ≡ name_made s b n
name_is s b o t x a xs sl n k is q h =
    h ∙ (ap (λ ys. n + length (each_made s ys n)) q ∙ (sym (name_of_node s o t x a xs n) ∙ ap (λ c. name_made s c n) (sym is)))

pub made_is : (s : Source) (b : Build) (o : Op) (t : Option TyPart) (x : Option Expr) (a : Option ℕ) (xs sl : List Build) (n : ℕ) (old mid new : List ValueRecord) (v : ValueRecord) →
    b ≡ roll-Build (Build-F.Node o t x a xs) → sl ≡ xs → mid ≡ old ++ each_made s sl n → new ≡ mid ++ v ∷ [] →
    v ≡ node_made s (n + length (each_made s sl n)) (result_type o) o t x a (each_name s sl n) → new ≡ old ++ values_made s b n
made_is s b o t x a xs sl n old mid new v is q m k d =
    let w : List Build → ValueRecord = λ ys. node_made s (n + length (each_made s ys n)) (result_type o) o t x a (each_name s ys n) in
    k ∙ (ap (λ ys. ys ++ v ∷ []) m
    ∙ (append_assoc old (each_made s sl n) (v ∷ [])
    ∙ (ap (λ z. old ++ (each_made s sl n ++ z ∷ [])) d
    ∙ (ap (λ ys. old ++ (each_made s ys n ++ w ys ∷ [])) q
    ∙ ap (λ ys. old ++ ys) (sym (made_of_node s o t x a xs n) ∙ ap (λ c. values_made s c n) (sym is))))))

pub inner_is : (s : Source) (b : Build) (o : Op) (t : Option TyPart) (x : Option Expr) (a : Option ℕ) (xs sl : List Build) (g : ℕ) (old new : List ValueRecord) →
    b ≡ roll-Build (Build-F.Node o t x a xs) → sl ≡ xs → old ≡ [] → new ≡ old ++ each_made s sl (g + length old) → new ≡ inner_made s b g
inner_is s b o t x a xs sl g old new is q z h =
    h ∙ (ap (λ ys. ys ++ each_made s sl (g + length old)) z
    ∙ (ap (each_made s sl) (at_zero g old z)
    ∙ (ap (λ ys. each_made s ys g) q ∙ (sym (inner_of_node s o t x a xs g) ∙ ap (λ c. inner_made s c g) (sym is)))))

pub inner_grows : (s : Source) (b : Build) (o : Op) (t : Option TyPart) (x : Option Expr) (a : Option ℕ) (xs sl : List Build) (g room : ℕ) (old : List ValueRecord) →
    b ≡ roll-Build (Build-F.Node o t x a xs) → sl ≡ xs → old ≡ [] → room < length old + length (each_made s sl (g + length old)) → room < length (inner_made s b g)
inner_grows s b o t x a xs sl g room old is q z h =
    let e : length (each_made s sl (g + length old)) ≡ length (inner_made s b g) =
    ap length (ap (each_made s sl) (at_zero g old z) ∙ (ap (λ ys. each_made s ys g) q ∙ (sym (inner_of_node s o t x a xs g) ∙ ap (λ c. inner_made s c g) (sym is)))) in
    let f : length old ≡ 0 = ap length z in
    omega (arith, h, e, f)

pub root_is : (s : Source) (b : Build) (id : ℕ) (u : Ty) (o : Op) (t : Option TyPart) (x : Option Expr) (a : Option ℕ) (xs sl : List Build) (g : ℕ) (old : List ValueRecord) (v : ValueRecord) →
    b ≡ roll-Build (Build-F.Node o t x a xs) → sl ≡ xs → old ≡ [] → v ≡ node_made s id u o t x a (each_name s sl (g + length old)) → v ≡ root_made s id u b g
root_is s b id u o t x a xs sl g old v is q z h =
    h ∙ (ap (λ n. node_made s id u o t x a (each_name s sl n)) (at_zero g old z)
    ∙ (ap (λ ys. node_made s id u o t x a (each_name s ys g)) q ∙ (sym (root_of_node s id u o t x a xs g) ∙ ap (λ c. root_made s id u c g) (sym is))))

-- a value by its parts
pub parts_same : (id jd : ℕ) (o : Op) (t u : Ty) (xs ys : List ℕ) (k l : ℤ) (a b : Aux) → id ≡ jd → t ≡ u → xs ≡ ys → k ≡ l → a ≡ b →
    value_of id o t xs k a ≡ value_of jd o u ys l b
parts_same id jd o t u xs ys k l a b h i j m n =
    ap (λ z. value_of z o t xs k a) h
    ∙ (ap (λ z. value_of jd o z xs k a) i
    ∙ (ap (λ z. value_of jd o u z k a) j
    ∙ (ap (λ z. value_of jd o u ys z a) m ∙ ap (λ z. value_of jd o u ys l z) n)))

-- ---- what a `?` tells
pub told : {X : Type 0} (r : Result X Stop) (e : Stop) (P : Type 0) → IsErrAnd r (λ f. f ≡ e) → (e ≡ stop.Grown → P) → IfErr r (λ f. f ≡ stop.Grown → P)
told (Ok x) e P h k = absurd h
told (Err d) e P h k = λ q. k (sym h ∙ q)

pub not_grown : {X : Type 0} (r : Result X Stop) (P : Type 0) → IsErrAnd r (λ f. f ≡ stop.Memory) → IfErr r (λ f. f ≡ stop.Grown → P)
not_grown (Ok x) P h = absurd h
not_grown (Err d) P h = λ q. absurd (let z : stop.Memory ≡ stop.Grown = sym h ∙ q in cc)
