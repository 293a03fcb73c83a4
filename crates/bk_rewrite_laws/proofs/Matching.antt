-- In given orders a tree whose variables are numbered in order stands under one list of bindings.
use Rattle.std.proofs.Common.{◌≡◌, ℕ, suc, ◌+◌, ◌<◌, ◌≤◌, max, refl, ap, sym, subst, ◌∙◌, arith, Bool, List, [], ◌∷◌, length, drop, Option, Some, None, inl, inr, ℤ}
use Rattle.std.specs.Prelude.{slice_get}
use Rattle.std.proofs.lemmas.Bool.{cases_lt}
use Rattle.bk_ops.specs.declared.types.Target.{Target}
use Rattle.bk_ops.specs.declared.types.Ty.{Ty}
use Rattle.bk_func.specs.declared.parts.Aux.{Aux}
use Rattle.bk_func.specs.declared.parts.Aux.TheVariants as aux
use Rattle.bk_func.specs.Records.{ValueRecord, FuncRecord}
use Rattle.bk_rule.specs.declared.trees.Bound.{Bound}
use Rattle.bk_rule.specs.declared.trees.Bound.TheVariants as bound
use Rattle.bk_rule.specs.declared.trees.IntPart.{IntPart}
use Rattle.bk_rule.specs.declared.trees.IntPart.TheVariants as part
use Rattle.bk_rule.specs.declared.trees.Pattern.{Pattern, Row_of-Pattern, end_of-Pattern, more_of-Pattern}
use Rattle.bk_rule.specs.declared.trees.Pattern as pattern
use Rattle.bk_rule.specs.declared.trees.Rule.{Rule}
use Rattle.bk_rule.specs.Match.{IsBound, NameMatches, TypeMatches, IntMatches, AuxIs, AuxMatches, ordered, order_of, orders, past, past_int, variables, variables_each, Matches, MatchesEach, IsMatch}
use Rattle.bk_rewrite.specs.First.{IsNext, IsNextInt, IsNumbered, AreNumbered}

-- the first n variables are bound alike
abbrev pub Agree : ℕ → List Bound → List Bound → Type 0
Agree n xs ys = (i : ℕ) → i < n → slice_get xs i ≡ slice_get ys i

-- one more variable, which comes next or came before
agree_more : (n i : ℕ) (b : Bound) (xs ys : List Bound) → i ≤ n → IsBound xs i b → IsBound ys i b → Agree n xs ys → Agree (max n (i + 1)) xs ys
agree_more n i b xs ys l x y h j k = elim (cases_lt j n) [
  | inl m ↦ h j m
  | inr m ↦ (let e : j ≡ i = omega (arith, k, m, l) in ap (slice_get xs) e ∙ (x ∙ (sym y ∙ ap (slice_get ys) (sym e))))
]

agree_same : (n m : ℕ) (xs ys : List Bound) → m ≡ n → Agree n xs ys → Agree m xs ys
agree_same n m xs ys e h = subst (λ k. Agree k xs ys) (sym e) h

agree_none : (n : ℕ) (xs ys : List Bound) → Agree n xs ys → Agree (max n 0) xs ys
agree_none n xs ys h = agree_same n (max n 0) xs ys (omega arith) h

-- ---- the parts of a node
agree_name : (n : ℕ) (name : Option ℕ) (id : ℕ) (xs ys : List Bound) → IsNext n name → NameMatches xs name id → NameMatches ys name id → Agree n xs ys → Agree (max n (past name)) xs ys
agree_name n None id xs ys l x y h = agree_none n xs ys h
agree_name n (Some i) id xs ys l x y h = agree_more n i (bound.Value id) xs ys l x y h

agree_type : (n : ℕ) (ty : Option ℕ) (t : Ty) (xs ys : List Bound) → IsNext n ty → TypeMatches xs ty t → TypeMatches ys ty t → Agree n xs ys → Agree (max n (past ty)) xs ys
agree_type n None t xs ys l x y h = agree_none n xs ys h
agree_type n (Some i) t xs ys l x y h = agree_more n i (bound.Ty t) xs ys l x y h

agree_int : (n : ℕ) (int : Option IntPart) (k : ℤ) (xs ys : List Bound) → IsNextInt n int → IntMatches xs int k → IntMatches ys int k → Agree n xs ys → Agree (max n (past_int int)) xs ys
agree_int n None k xs ys l x y h = agree_none n xs ys h
agree_int n (Some (part.Number m)) k xs ys l x y h = agree_none n xs ys h
agree_int n (Some (part.Var i)) k xs ys l x y h = agree_more n i (bound.Int k) xs ys l x y h

agree_aux_is : (n i : ℕ) (a : Aux) (xs ys : List Bound) → i ≤ n → AuxIs xs i a → AuxIs ys i a → Agree n xs ys → Agree (max n (i + 1)) xs ys
agree_aux_is n i aux.Nothing xs ys l x y h = absurd x
agree_aux_is n i (aux.Sym s) xs ys l x y h = agree_more n i (bound.Sym s) xs ys l x y h
agree_aux_is n i (aux.Ty t) xs ys l x y h = agree_more n i (bound.Ty t) xs ys l x y h
agree_aux_is n i (aux.Arg p) xs ys l x y h = agree_more n i (bound.Arg p) xs ys l x y h

agree_aux : (n : ℕ) (x : Option ℕ) (a : Aux) (xs ys : List Bound) → IsNext n x → AuxMatches xs x a → AuxMatches ys x a → Agree n xs ys → Agree (max n (past x)) xs ys
agree_aux n None a xs ys l x y h = agree_none n xs ys h
agree_aux n (Some i) a xs ys l x y h = agree_aux_is n i a xs ys l x y h

-- ---- the tree
max_assoc : (a b c : ℕ) → max a (max b c) ≡ max (max a b) c
max_assoc a b c = omega arith

max_parts : (n a b c d e : ℕ) → max n (max a (max b (max c (max d e)))) ≡ max (max (max (max (max n a) b) c) d) e
max_parts n a b c d e =
    max_assoc n a (max b (max c (max d e))) ∙ (max_assoc (max n a) b (max c (max d e)) ∙ (max_assoc (max (max n a) b) c (max d e) ∙ max_assoc (max (max (max n a) b) c) d e))

mutual
  agree_tree : (f : FuncRecord) (p : Pattern) (id : ℕ) (cs : List Bool) (n : ℕ) (xs ys : List Bound) → IsNumbered n p → Matches f xs p id cs → Matches f ys p id cs → Agree n xs ys → Agree (max n (variables p)) xs ys
  agree_tree f pattern.Any id cs n xs ys k x y h = agree_none n xs ys h
  agree_tree f (pattern.Var i) id cs n xs ys k x y h = agree_more n i (bound.Value id) xs ys k x y h
  agree_tree f (pattern.Node' name o ty int aux shape ps) id cs n xs ys ((k1, k2, k3, k4), k5) (x1, (v, xv, xo, x2, x3, x4, x5)) (y1, (w, yv, yo, y2, y3, y4, y5)) h =
      let e : w ≡ v = (let q : Some w ≡ Some v = sym yv ∙ xv in cc) in
      let n1 = max n (past name) in
      let n2 = max n1 (past ty) in
      let n3 = max n2 (past_int int) in
      let n4 = max n3 (past aux) in
      let h1 : Agree n1 xs ys = agree_name n name id xs ys k1 x1 y1 h in
      let h2 : Agree n2 xs ys = agree_type n1 ty v.ty xs ys k2 x2 (subst (λ (u : ValueRecord). TypeMatches ys ty u.ty) e y2) h1 in
      let h3 : Agree n3 xs ys = agree_int n2 int v.int xs ys k3 x3 (subst (λ (u : ValueRecord). IntMatches ys int u.int) e y3) h2 in
      let h4 : Agree n4 xs ys = agree_aux n3 aux v.aux xs ys k4 x4 (subst (λ (u : ValueRecord). AuxMatches ys aux u.aux) e y4) h3 in
      let h5 = agree_row f ps (ordered o cs v.args) (drop (order_of o) cs) n4 xs ys k5 x5 (subst (λ (u : ValueRecord). MatchesEach f ys ps (ordered o cs u.args) (drop (order_of o) cs)) e y5) h4 in
      agree_same (max n4 (variables_each ps)) (max n (max (past name) (max (past ty) (max (past_int int) (max (past aux) (variables_each ps)))))) xs ys
      (max_parts n (past name) (past ty) (past_int int) (past aux) (variables_each ps)) h5

  agree_row : (f : FuncRecord) {m : _} (ps : Row_of-Pattern m) (ids : List ℕ) (cs : List Bool) (n : ℕ) (xs ys : List Bound) → AreNumbered n ps → MatchesEach f xs ps ids cs → MatchesEach f ys ps ids cs → Agree n xs ys →
      Agree (max n (variables_each ps)) xs ys
  agree_row f end_of-Pattern ids cs n xs ys k x y h = agree_none n xs ys h
  agree_row f (more_of-Pattern p ps) [] cs n xs ys k x y h = absurd x
  agree_row f (more_of-Pattern p ps) (id ∷ ids) cs n xs ys (k, l) (x1, x2) (y1, y2) h =
      let h1 = agree_tree f p id cs n xs ys k x1 y1 h in
      let h2 = agree_row f ps ids (drop (orders p) cs) (max n (variables p)) xs ys l x2 y2 h1 in
      agree_same (max (max n (variables p)) (variables_each ps)) (max n (max (variables p) (variables_each ps))) xs ys (max_assoc n (variables p) (variables_each ps)) h2

-- lists of one length that agree everywhere
agree_all : (xs ys : List Bound) → length xs ≡ length ys → Agree (length xs) xs ys → xs ≡ ys
agree_all [] [] e h = refl
agree_all [] (y ∷ ys) e h = absurd (omega (arith, e))
agree_all (x ∷ xs) [] e h = absurd (omega (arith, e))
agree_all (x ∷ xs) (y ∷ ys) e h =
    let a : x ≡ y = (let q : Some x ≡ Some y = h 0 (omega arith) in cc) in
    let b = agree_all xs ys (omega (arith, e)) (λ i l. h (suc i) (omega (arith, l))) in
    ap (λ z. z ∷ xs) a ∙ ap (λ zs. y ∷ zs) b

pub same_bindings : (t : Target) (f : FuncRecord) (r : Rule) (id : ℕ) (cs : List Bool) (xs ys : List Bound) → IsNumbered 0 r.left → IsMatch t f r xs id cs → IsMatch t f r ys id cs → xs ≡ ys
same_bindings t f r id cs xs ys k x y =
    let h = agree_tree f r.left id cs 0 xs ys k x.stands y.stands (λ i l. absurd (omega (arith, l))) in
    let e : length xs ≡ max 0 (variables r.left) = omega (arith, x.one_each) in
    agree_all xs ys (x.one_each ∙ sym y.one_each) (subst (λ n. Agree n xs ys) (sym e) h)
