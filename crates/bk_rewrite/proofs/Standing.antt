-- What a trial of a left tree binds, that the tree stands then, and that it stands under no other bindings.
use Rattle.std.proofs.Common.{◌≡◌, ℕ, zero, suc, ◌+◌, ◌<◌, ◌≤◌, max, refl, ap, sym, subst, ◌∙◌, arith, Bool, true, false, if◌then◌else◌, List, [], ◌∷◌, ◌++◌, length, length-append, drop, get_or, Option, Some, None, inl, inr, ◌⊎◌}
use Rattle.std.specs.Prelude.{slice_get, option_copied}
use Rattle.std.specs.Borrow.{Bor}
use Rattle.std.specs.Slice.{IsItemAt}
use Rattle.std.proofs.lemmas.Option.{slice_get_past, slice_get_read, slice_get_within}
use Rattle.std.proofs.lemmas.List.{drop_all, drop_more, drop-drop}
use Rattle.bk_ops.specs.declared.table.Op.{Op}
use Rattle.bk_func.specs.Records.{ValueRecord, FuncRecord}
use Rattle.bk_func.specs.Numbers.{value_of}
use Rattle.bk_rule.specs.declared.trees.Bound.{Bound}
use Rattle.bk_rule.specs.declared.trees.Bound.TheVariants as bound
use Rattle.bk_rule.specs.declared.trees.IntPart.{IntPart}
use Rattle.bk_rule.specs.declared.trees.Pattern.{Pattern, roll-Pattern}
use Rattle.bk_rule.specs.declared.trees.Pattern.TheOpen.{Pattern-F}
use Rattle.bk_rule.specs.declared.trees.Pattern.TheBlock.{hidden-the_row-Pattern-0}
use Rattle.bk_rule.specs.Match.{IsBound, NameMatches, TypeMatches, IntMatches, AuxMatches, Matches, MatchesEach, is_commutative, first_is, swapped, ordered, order_of, orders, orders_each, variables, variables_each, past, past_int}
use Rattle.bk_rule.proofs.Opened.{opened}
use Rattle.bk_rewrite.specs.First.{IsNumbered, AreNumbered, IsNext, IsNextInt, AreNext}
use Rattle.bk_rewrite.specs.Trials.{Keeps, Binds, Misses, PartsMatch, parts_past, PatternsMatch, PatternsNumbered, sum_orders, most_variables, Stood, Failed, Goes}

-- ---- bindings
pub keeps_self : (t : List Bound) → Keeps t t
keeps_self t = λ i b e. e

pub keeps_all : (t u w : List Bound) → Keeps t u → Keeps u w → Keeps t w
keeps_all t u w h k = λ i b e. k i b (h i b e)

-- nothing is asked
pub binds_nothing : (t : List Bound) (P : List Bound → Type 0) → ((bs : List Bound) → P bs) → Binds 0 P t t
binds_nothing t P h = record { keeps = keeps_self t; holds = λ bs k. h bs; least = λ bs k p. k; variables = omega arith }

-- a variable that is bound already
pub binds_old : (t : List Bound) (i : ℕ) (b : Bound) → slice_get t i ≡ Some b → Binds (i + 1) (λ bs. IsBound bs i b) t t
binds_old t i b e = (let l = slice_get_within t i b e in record { keeps = keeps_self t; holds = λ bs k. k i b e; least = λ bs k p. k; variables = omega arith })

-- a variable that is bound to something else
pub misses_other : (t : List Bound) (i : ℕ) (b c : Bound) → slice_get t i ≡ Some c → (c ≡ b → ⊥) → Misses (λ bs. IsBound bs i b) t
misses_other t i b c e h = λ bs k p. h (let q : Some c ≡ Some b = sym (k i c e) ∙ p in cc)

-- the parts of what is asked, one after the other
pub binds_both : (n m : ℕ) (P Q : List Bound → Type 0) (t u w : List Bound) → Binds n P t u → Binds m Q u w → Binds (max n m) (λ bs. P bs × Q bs) t w
binds_both n m P Q t u w h k = record {
  keeps = keeps_all t u w h.keeps k.keeps;
  holds = λ bs l. (h.holds bs (keeps_all u w bs k.keeps l), k.holds bs l);
  least = λ bs l p. k.least bs (h.least bs l p.0) p.1;
  variables = omega (arith, h.variables, k.variables);
}

pub binds_four : (n m p q : ℕ) (N M P Q : List Bound → Type 0) (t u v w x : List Bound) → Binds n N t u → Binds m M u v → Binds p P v w → Binds q Q w x →
    Binds (max n (max m (max p q))) (λ bs. N bs × M bs × P bs × Q bs) t x
binds_four n m p q N M P Q t u v w x a b c d = record {
  keeps = keeps_all t u x a.keeps (keeps_all u v x b.keeps (keeps_all v w x c.keeps d.keeps));
  holds = λ bs l. (
    a.holds bs (keeps_all u v bs b.keeps (keeps_all v w bs c.keeps (keeps_all w x bs d.keeps l))),
    b.holds bs (keeps_all v w bs c.keeps (keeps_all w x bs d.keeps l)),
    c.holds bs (keeps_all w x bs d.keeps l),
    d.holds bs l,
  );
  least = λ bs l r. (let (e, f, g, h) = r in d.least bs (c.least bs (b.least bs (a.least bs l e) f) g) h);
  variables = omega (arith, a.variables, b.variables, c.variables, d.variables);
}

-- one of four parts that misses
pub misses_first : (N M P Q : List Bound → Type 0) (t : List Bound) → Misses N t → Misses (λ bs. N bs × M bs × P bs × Q bs) t
misses_first N M P Q t h = λ bs l r. (let (e, f, g, i) = r in h bs l e)

pub misses_second : (n : ℕ) (N M P Q : List Bound → Type 0) (t u : List Bound) → Binds n N t u → Misses M u → Misses (λ bs. N bs × M bs × P bs × Q bs) t
misses_second n N M P Q t u a h = λ bs l r. (let (e, f, g, i) = r in h bs (a.least bs l e) f)

pub misses_third : (n m : ℕ) (N M P Q : List Bound → Type 0) (t u v : List Bound) → Binds n N t u → Binds m M u v → Misses P v → Misses (λ bs. N bs × M bs × P bs × Q bs) t
misses_third n m N M P Q t u v a b h = λ bs l r. (let (e, f, g, i) = r in h bs (b.least bs (a.least bs l e) f) g)

pub misses_fourth : (n m p : ℕ) (N M P Q : List Bound → Type 0) (t u v w : List Bound) → Binds n N t u → Binds m M u v → Binds p P v w → Misses Q w → Misses (λ bs. N bs × M bs × P bs × Q bs) t
misses_fourth n m p N M P Q t u v w a b c h = λ bs l r. (let (e, f, g, i) = r in h bs (c.least bs (b.least bs (a.least bs l e) f) g) i)

-- the variables of a node, one after the other
pub next_int : (name ty : Option ℕ) (int : Option IntPart) (x : Option ℕ) (N M : List Bound → Type 0) (t u v : List Bound) → AreNext (length t) name ty int x →
    Binds (past name) N t u → Binds (past ty) M u v → IsNextInt (length v) int
next_int name ty int x N M t u v h a b =
    let (c, d, e, f) = h in
    let m : max (max (length t) (past name)) (past ty) ≡ length v = omega (arith, a.variables, b.variables) in
    subst (λ (n : ℕ). IsNextInt n int) m e

pub next_aux : (name ty : Option ℕ) (int : Option IntPart) (x : Option ℕ) (N M P : List Bound → Type 0) (t u v w : List Bound) → AreNext (length t) name ty int x →
    Binds (past name) N t u → Binds (past ty) M u v → Binds (past_int int) P v w → IsNext (length w) x
next_aux name ty int x N M P t u v w h a b i =
    let (c, d, e, f) = h in
    let m : max (max (max (length t) (past name)) (past ty)) (past_int int) ≡ length w = omega (arith, a.variables, b.variables, i.variables) in
    subst (λ (n : ℕ). IsNext n x) m f

-- a variable that is bound now
front_end : (t : List Bound) (b : Bound) → slice_get (t ++ b ∷ []) (length t) ≡ Some b
front_end [] b = refl
front_end (x ∷ t) b = front_end t b

front_kept : (t u : List Bound) → Keeps t (t ++ u)
front_kept [] u i b e = absurd (let q : None ≡ Some b = e in cc)
front_kept (x ∷ t) u zero b e = e
front_kept (x ∷ t) u (suc i) b e = front_kept t u i b e

before_or_last : (t : List Bound) (b c : Bound) (j : ℕ) → slice_get (t ++ b ∷ []) j ≡ Some c → (slice_get t j ≡ Some c) ⊎ ((j ≡ length t) × (b ≡ c))
before_or_last [] b c zero e = inr (refl, (let q : Some b ≡ Some c = e in cc))
before_or_last [] b c (suc j) e = absurd (let q : None ≡ Some c = e in cc)
before_or_last (x ∷ t) b c zero e = inl e
before_or_last (x ∷ t) b c (suc j) e = elim (before_or_last t b c j e) [
  | inl m ↦ inl m
  | inr m ↦ inr (omega (arith, m.0), m.1)
]

pub binds_new : (t u : List Bound) (i : ℕ) (b : Bound) → i ≡ length t → u ≡ t ++ b ∷ [] → Binds (i + 1) (λ bs. IsBound bs i b) t u
binds_new t u i b h e =
    let k : Keeps t u = subst (Keeps t) (sym e) (front_kept t (b ∷ [])) in
    let m : slice_get u i ≡ Some b = ap (λ (xs : List Bound). slice_get xs i) e ∙ (ap (slice_get (t ++ b ∷ [])) h ∙ front_end t b) in
    record {
      keeps = k;
      holds = λ bs l. l i b m;
      least = λ bs l p. λ j c d. elim (before_or_last t b c j (ap (λ (xs : List Bound). slice_get xs j) (sym e) ∙ d)) [
        | inl q ↦ l j c q
        | inr q ↦ ap (slice_get bs) (q.0 ∙ sym h) ∙ (p ∙ ap Some q.1)
      ];
      variables = omega (arith, h, ap length e, length-append t (b ∷ []));
    }

-- ---- nodes
variables_of_node : (name : Option ℕ) (o : Op) (ty : Option ℕ) (int : Option IntPart) (x : Option ℕ) (ps : List Pattern) →
    variables (roll-Pattern (Pattern-F.Node name o ty int x ps)) ≡ max (past name) (max (past ty) (max (past_int int) (max (past x) (most_variables ps))))
unfolding opened
variables_of_node name o ty int x ps = ap (λ n. max (past name) (max (past ty) (max (past_int int) (max (past x) n)))) (each ps)
  where
    each : (qs : List Pattern) → variables_each (hidden-the_row-Pattern-0 qs) ≡ most_variables qs
    each [] = refl
    each (q ∷ qs) = ap (λ n. max (variables q) n) (each qs)

orders_of_node : (name : Option ℕ) (o : Op) (ty : Option ℕ) (int : Option IntPart) (x : Option ℕ) (ps : List Pattern) →
    orders (roll-Pattern (Pattern-F.Node name o ty int x ps)) ≡ order_of o + sum_orders ps
unfolding opened
orders_of_node name o ty int x ps = ap (λ n. order_of o + n) (each ps)
  where
    each : (qs : List Pattern) → orders_each (hidden-the_row-Pattern-0 qs) ≡ sum_orders qs
    each [] = refl
    each (q ∷ qs) = ap (λ n. orders q + n) (each qs)

rows_match : (f : FuncRecord) (bs : List Bound) (ps : List Pattern) (ids : List ℕ) (cs : List Bool) →
    PatternsMatch f bs ps ids cs → MatchesEach f bs (hidden-the_row-Pattern-0 ps) ids cs
unfolding opened
rows_match f bs [] ids cs h = h
rows_match f bs (p ∷ ps) [] cs h = h
rows_match f bs (p ∷ ps) (id ∷ ids) cs (a, h) = (a, rows_match f bs ps ids (drop (orders p) cs) h)

match_rows : (f : FuncRecord) (bs : List Bound) (ps : List Pattern) (ids : List ℕ) (cs : List Bool) →
    MatchesEach f bs (hidden-the_row-Pattern-0 ps) ids cs → PatternsMatch f bs ps ids cs
unfolding opened
match_rows f bs [] ids cs h = h
match_rows f bs (p ∷ ps) [] cs h = h
match_rows f bs (p ∷ ps) (id ∷ ids) cs (a, h) = (a, match_rows f bs ps ids (drop (orders p) cs) h)

rows_numbered : (n : ℕ) (ps : List Pattern) → AreNumbered n (hidden-the_row-Pattern-0 ps) → PatternsNumbered n ps
unfolding opened
rows_numbered n [] h = h
rows_numbered n (p ∷ ps) (a, h) = (a, rows_numbered (max n (variables p)) ps h)

-- a node at a value, by its parts
node_matches : (f : FuncRecord) (bs : List Bound) (p : Pattern) (name : Option ℕ) (o : Op) (ty : Option ℕ) (int : Option IntPart) (x : Option ℕ) (ps sl : List Pattern) (ids : List ℕ) (id : ℕ) (cs : List Bool) (v : ValueRecord) →
    p ≡ roll-Pattern (Pattern-F.Node name o ty int x ps) → sl ≡ ps → ids ≡ v.args → value_of f id ≡ Some v → v.id ≡ id → v.op ≡ o →
    PartsMatch bs name ty int x v → PatternsMatch f bs sl (ordered o cs ids) (drop (order_of o) cs) → Matches f bs p id cs
unfolding opened
node_matches f bs p name o ty int x ps sl ids id cs v is s a e same q parts h =
    let (n, b, c, d) = parts in
    let h1 : PatternsMatch f bs ps (ordered o cs ids) (drop (order_of o) cs) = subst (λ (rs : List Pattern). PatternsMatch f bs rs (ordered o cs ids) (drop (order_of o) cs)) s h in
    let h2 : PatternsMatch f bs ps (ordered o cs v.args) (drop (order_of o) cs) = subst (λ (js : List ℕ). PatternsMatch f bs ps (ordered o cs js) (drop (order_of o) cs)) a h1 in
    subst (λ (g : Pattern). Matches f bs g id cs) (sym is)
    (subst (λ (k : ℕ). NameMatches bs name k) same n, (v, e, q, b, c, d, rows_match f bs ps (ordered o cs v.args) (drop (order_of o) cs) h2))

node_parts : (f : FuncRecord) (bs : List Bound) (p : Pattern) (name : Option ℕ) (o : Op) (ty : Option ℕ) (int : Option IntPart) (x : Option ℕ) (ps sl : List Pattern) (ids : List ℕ) (id : ℕ) (cs : List Bool) (v : ValueRecord) →
    p ≡ roll-Pattern (Pattern-F.Node name o ty int x ps) → sl ≡ ps → ids ≡ v.args → value_of f id ≡ Some v → v.id ≡ id → Matches f bs p id cs →
    (v.op ≡ o) × PartsMatch bs name ty int x v × PatternsMatch f bs sl (ordered o cs ids) (drop (order_of o) cs)
unfolding opened
node_parts f bs p name o ty int x ps sl ids id cs v is s a e same h =
    let (n, z) = subst (λ (g : Pattern). Matches f bs g id cs) is h in
    let (w, d, q0, b0, c0, x0, k0) = z in
    let ww : w ≡ v = (let z : Some w ≡ Some v = sym d ∙ e in cc) in
    let (q, b, c, y, k) = subst (λ (z : ValueRecord). (z.op ≡ o) × TypeMatches bs ty z.ty × IntMatches bs int z.int × AuxMatches bs x z.aux × MatchesEach f bs (hidden-the_row-Pattern-0 ps) (ordered o cs z.args) (drop (order_of o) cs)) ww (q0, b0, c0, x0, k0) in
    let h2 : PatternsMatch f bs ps (ordered o cs v.args) (drop (order_of o) cs) = match_rows f bs ps (ordered o cs v.args) (drop (order_of o) cs) k in
    let h1 : PatternsMatch f bs ps (ordered o cs ids) (drop (order_of o) cs) = subst (λ (js : List ℕ). PatternsMatch f bs ps (ordered o cs js) (drop (order_of o) cs)) (sym a) h2 in
    (q, (subst (λ (k : ℕ). NameMatches bs name k) (sym same) n, b, c, y), subst (λ (rs : List Pattern). PatternsMatch f bs rs (ordered o cs ids) (drop (order_of o) cs)) (sym s) h1)

pub numbered_parts : (n : ℕ) (p : Pattern) (name : Option ℕ) (o : Op) (ty : Option ℕ) (int : Option IntPart) (x : Option ℕ) (ps sl : List Pattern) →
    p ≡ roll-Pattern (Pattern-F.Node name o ty int x ps) → sl ≡ ps → IsNumbered n p →
    AreNext n name ty int x × PatternsNumbered (max n (parts_past name ty int x)) sl
unfolding opened
numbered_parts n p name o ty int x ps sl is s h =
    let (a, k) = subst (IsNumbered n) is h in
    let m : max (max (max (max n (past name)) (past ty)) (past_int int)) (past x) ≡ max n (parts_past name ty int x) = omega arith in
    (a, subst (λ (rs : List Pattern). PatternsNumbered (max n (parts_past name ty int x)) rs) (sym s) (subst (λ (i : ℕ). PatternsNumbered i ps) m (rows_numbered (max (max (max (max n (past name)) (past ty)) (past_int int)) (past x)) ps k)))

pub orders_node : (p : Pattern) (name : Option ℕ) (o : Op) (ty : Option ℕ) (int : Option IntPart) (x : Option ℕ) (ps sl : List Pattern) →
    p ≡ roll-Pattern (Pattern-F.Node name o ty int x ps) → sl ≡ ps → orders p ≡ order_of o + sum_orders sl
orders_node p name o ty int x ps sl is s = ap orders is ∙ (orders_of_node name o ty int x ps ∙ ap (λ (rs : List Pattern). order_of o + sum_orders rs) (sym s))

variables_node : (p : Pattern) (name : Option ℕ) (o : Op) (ty : Option ℕ) (int : Option IntPart) (x : Option ℕ) (ps sl : List Pattern) →
    p ≡ roll-Pattern (Pattern-F.Node name o ty int x ps) → sl ≡ ps → variables p ≡ max (parts_past name ty int x) (most_variables sl)
variables_node p name o ty int x ps sl is s =
    ap variables is ∙ (variables_of_node name o ty int x ps ∙ (omega arith ∙ ap (λ (rs : List Pattern). max (parts_past name ty int x) (most_variables rs)) (sym s)))

-- a node's parts and its arguments, as the trial of a tree finds them
pub stood_node : (f : FuncRecord) (cs : List Bool) (p : Pattern) (name : Option ℕ) (o : Op) (ty : Option ℕ) (int : Option IntPart) (x : Option ℕ) (ps sl : List Pattern) (ids : List ℕ) (id used now : ℕ) (v : ValueRecord) (t u w : List Bound) →
    p ≡ roll-Pattern (Pattern-F.Node name o ty int x ps) → sl ≡ ps → ids ≡ v.args → value_of f id ≡ Some v → v.id ≡ id → v.op ≡ o →
    Binds (parts_past name ty int x) (λ bs. PartsMatch bs name ty int x v) t u →
    Stood cs (most_variables sl) (order_of o + sum_orders sl) (λ bs cs. PatternsMatch f bs sl (ordered o cs ids) (drop (order_of o) cs)) u w used now →
    Stood cs (variables p) (orders p) (λ bs cs. Matches f bs p id cs) t w used now
stood_node f cs p name o ty int x ps sl ids id used now v t u w is s a e same q h k = record {
  binds = λ more. record {
    keeps = keeps_all t u w h.keeps (k.binds more).keeps;
    holds = λ bs l. node_matches f bs p name o ty int x ps sl ids id (drop used (cs ++ more)) v is s a e same q
        (h.holds bs (keeps_all u w bs (k.binds more).keeps l)) ((k.binds more).holds bs l);
    least = λ bs l m. (let (i, parts, args) = node_parts f bs p name o ty int x ps sl ids id (drop used (cs ++ more)) v is s a e same m in
        (k.binds more).least bs (h.least bs l parts) args);
    variables = omega (arith, h.variables, (k.binds more).variables, variables_node p name o ty int x ps sl is s);
  };
  used = k.used ∙ ap (λ n. used + n) (sym (orders_node p name o ty int x ps sl is s));
  within = k.within;
}

pub failed_args : (f : FuncRecord) (cs : List Bool) (p : Pattern) (name : Option ℕ) (o : Op) (ty : Option ℕ) (int : Option IntPart) (x : Option ℕ) (ps sl : List Pattern) (ids : List ℕ) (id used : ℕ) (v : ValueRecord) (t u : List Bound) →
    p ≡ roll-Pattern (Pattern-F.Node name o ty int x ps) → sl ≡ ps → ids ≡ v.args → value_of f id ≡ Some v → v.id ≡ id →
    Binds (parts_past name ty int x) (λ bs. PartsMatch bs name ty int x v) t u →
    Failed cs (λ bs cs. PatternsMatch f bs sl (ordered o cs ids) (drop (order_of o) cs)) u used →
    Failed cs (λ bs cs. Matches f bs p id cs) t used
failed_args f cs p name o ty int x ps sl ids id used v t u is s a e same h k = λ more bs l m.
    let (i, parts, args) = node_parts f bs p name o ty int x ps sl ids id (drop used (cs ++ more)) v is s a e same m in
    k more bs (h.least bs l parts) args

pub failed_parts : (f : FuncRecord) (cs : List Bool) (p : Pattern) (name : Option ℕ) (o : Op) (ty : Option ℕ) (int : Option IntPart) (x : Option ℕ) (ps : List Pattern) (id used : ℕ) (v : ValueRecord) (t : List Bound) →
    p ≡ roll-Pattern (Pattern-F.Node name o ty int x ps) → value_of f id ≡ Some v → v.id ≡ id →
    Misses (λ bs. PartsMatch bs name ty int x v) t → Failed cs (λ bs cs. Matches f bs p id cs) t used
failed_parts f cs p name o ty int x ps id used v t is e same k = λ more bs l m.
    let (i, parts, args) = node_parts f bs p name o ty int x ps ps v.args id (drop used (cs ++ more)) v is refl refl e same m in
    k bs l parts

pub failed_op : (f : FuncRecord) (cs : List Bool) (p : Pattern) (name : Option ℕ) (o : Op) (ty : Option ℕ) (int : Option IntPart) (x : Option ℕ) (ps : List Pattern) (id used : ℕ) (v : ValueRecord) (t : List Bound) →
    p ≡ roll-Pattern (Pattern-F.Node name o ty int x ps) → value_of f id ≡ Some v → v.id ≡ id → (v.op ≡ o → ⊥) → Failed cs (λ bs cs. Matches f bs p id cs) t used
failed_op f cs p name o ty int x ps id used v t is e same k = λ more bs l m.
    let (i, parts, args) = node_parts f bs p name o ty int x ps ps v.args id (drop used (cs ++ more)) v is refl refl e same m in
    k i

pub failed_value : (f : FuncRecord) (cs : List Bool) (p : Pattern) (name : Option ℕ) (o : Op) (ty : Option ℕ) (int : Option IntPart) (x : Option ℕ) (ps : List Pattern) (id used : ℕ) (t : List Bound) →
    p ≡ roll-Pattern (Pattern-F.Node name o ty int x ps) → value_of f id ≡ None → Failed cs (λ bs cs. Matches f bs p id cs) t used
unfolding opened
failed_value f cs p name o ty int x ps id used t is e = λ more bs l m.
    let (n, r) = subst (λ (g : Pattern). Matches f bs g id (drop used (cs ++ more))) is m in
    let (w, d, q, b, c, y, k) = r in
    let z : None ≡ Some w = sym e ∙ d in cc

pub stood_any : (f : FuncRecord) (cs : List Bool) (p : Pattern) (id used : ℕ) (t : List Bound) → p ≡ roll-Pattern Pattern-F.Any →
    Stood cs (variables p) (orders p) (λ bs cs. Matches f bs p id cs) t t used used
unfolding opened
stood_any f cs p id used t is =
    subst (λ (g : Pattern). Stood cs (variables g) (orders g) (λ bs cs. Matches f bs g id cs) t t used used) (sym is)
    (record { binds = λ more. binds_nothing t (λ bs. Unit {0}) (λ bs. tt); used = omega arith; within = λ l. l })

pub stood_var : (f : FuncRecord) (cs : List Bool) (p : Pattern) (i id used : ℕ) (t u : List Bound) → p ≡ roll-Pattern (Pattern-F.Var i) →
    Binds (i + 1) (λ bs. IsBound bs i (bound.Value id)) t u → Stood cs (variables p) (orders p) (λ bs cs. Matches f bs p id cs) t u used used
unfolding opened
stood_var f cs p i id used t u is h =
    subst (λ (g : Pattern). Stood cs (variables g) (orders g) (λ bs cs. Matches f bs g id cs) t u used used) (sym is)
    (record { binds = λ more. h; used = omega arith; within = λ l. l })

pub failed_var : (f : FuncRecord) (cs : List Bool) (p : Pattern) (i id used : ℕ) (t : List Bound) → p ≡ roll-Pattern (Pattern-F.Var i) →
    Misses (λ bs. IsBound bs i (bound.Value id)) t → Failed cs (λ bs cs. Matches f bs p id cs) t used
unfolding opened
failed_var f cs p i id used t is h = λ more bs l m. h bs l (subst (λ (g : Pattern). Matches f bs g id (drop used (cs ++ more))) is m)

pub numbered_var : (n : ℕ) (p : Pattern) (i : ℕ) → p ≡ roll-Pattern (Pattern-F.Var i) → IsNumbered n p → i ≤ n
unfolding opened
numbered_var n p i is h = subst (IsNumbered n) is h

-- ---- the orders of a commutative op
first_at : (cs more : List Bool) (used : ℕ) (c : Bool) → slice_get cs used ≡ Some c → first_is (drop used (cs ++ more)) ≡ c
first_at [] more used c e = absurd (let q : None ≡ Some c = e in cc)
first_at (b ∷ cs) more zero c e = (let q : Some b ≡ Some c = e in cc)
first_at (b ∷ cs) more (suc used) c e = first_at cs more used c e

-- the arguments are taken as js, and the trial of them begins at the place `next`
pub record Order (cs : List Bool) (o : Op) (ids js : List ℕ) (used next : ℕ) : Type 0 where
  pub args : (more : List Bool) → js ≡ ordered o (drop used (cs ++ more)) ids
  pub rest : (more : List Bool) → drop next (cs ++ more) ≡ drop (order_of o) (drop used (cs ++ more))
  pub place : next ≡ used + order_of o
  pub within : used ≤ length cs → next ≤ length cs

pub plain_order : (cs : List Bool) (o : Op) (ids : List ℕ) (used : ℕ) → is_commutative o ≡ false → Order cs o ids ids used used
plain_order cs o ids used e = record {
  args = λ more. ap (λ b. if b then (if first_is (drop used (cs ++ more)) then swapped ids else ids) else ids) (sym e);
  rest = λ more. ap (λ b. drop (if b then 1 else 0) (drop used (cs ++ more))) (sym e);
  place = (let z : 0 ≡ order_of o = ap (λ b. if b then 1 else 0) (sym e) in omega (arith, z));
  within = λ l. l;
}

pub chosen_order : (cs : List Bool) (o : Op) (ids js : List ℕ) (c : Bool) (used : ℕ) → is_commutative o ≡ true → slice_get cs used ≡ Some c →
    (if c then swapped ids else ids) ≡ js → Order cs o ids js used (used + 1)
chosen_order cs o ids js c used e g d = record {
  args = λ more. sym d ∙ (ap (λ b. if b then swapped ids else ids) (sym (first_at cs more used c g)) ∙
      ap (λ b. if b then (if first_is (drop used (cs ++ more)) then swapped ids else ids) else ids) (sym e));
  rest = λ more. sym (drop-drop 1 used (cs ++ more)) ∙ ap (λ b. drop (if b then 1 else 0) (drop used (cs ++ more))) (sym e);
  place = (let z : 1 ≡ order_of o = ap (λ b. if b then 1 else 0) (sym e) in omega (arith, z));
  within = λ l. (let m = slice_get_within cs used c g in omega (arith, m));
}

args_as : (f : FuncRecord) (bs : List Bound) (ps : List Pattern) (xs ys : List ℕ) (cs ds : List Bool) → xs ≡ ys → cs ≡ ds → PatternsMatch f bs ps xs cs → PatternsMatch f bs ps ys ds
args_as f bs ps xs ys cs ds e d h = subst (λ (zs : List Bool). PatternsMatch f bs ps ys zs) d (subst (λ (zs : List ℕ). PatternsMatch f bs ps zs cs) e h)

pub stood_order : (f : FuncRecord) (cs : List Bool) (o : Op) (ps : List Pattern) (ids js : List ℕ) (used next now : ℕ) (t u : List Bound) → Order cs o ids js used next →
    Stood cs (most_variables ps) (sum_orders ps) (λ bs cs. PatternsMatch f bs ps js cs) t u next now →
    Stood cs (most_variables ps) (order_of o + sum_orders ps) (λ bs cs. PatternsMatch f bs ps (ordered o cs ids) (drop (order_of o) cs)) t u used now
stood_order f cs o ps ids js used next now t u r h = record {
  binds = λ more. record {
    keeps = (h.binds more).keeps;
    holds = λ bs m. args_as f bs ps js (ordered o (drop used (cs ++ more)) ids) (drop next (cs ++ more)) (drop (order_of o) (drop used (cs ++ more))) (r.args more) (r.rest more) ((h.binds more).holds bs m);
    least = λ bs m k. (h.binds more).least bs m (args_as f bs ps (ordered o (drop used (cs ++ more)) ids) js (drop (order_of o) (drop used (cs ++ more))) (drop next (cs ++ more)) (sym (r.args more)) (sym (r.rest more)) k);
    variables = (h.binds more).variables;
  };
  used = omega (arith, h.used, r.place);
  within = λ m. h.within (r.within m);
}

pub failed_order : (f : FuncRecord) (cs : List Bool) (o : Op) (ps : List Pattern) (ids js : List ℕ) (used next : ℕ) (t : List Bound) → Order cs o ids js used next →
    Failed cs (λ bs cs. PatternsMatch f bs ps js cs) t next →
    Failed cs (λ bs cs. PatternsMatch f bs ps (ordered o cs ids) (drop (order_of o) cs)) t used
failed_order f cs o ps ids js used next t r h = λ more bs m k.
    h more bs m (args_as f bs ps (ordered o (drop used (cs ++ more)) ids) js (drop (order_of o) (drop used (cs ++ more))) (drop next (cs ++ more)) (sym (r.args more)) (sym (r.rest more)) k)

-- an order that was looked up
pub looked_up : (cs : List Bool) (i : ℕ) (r : Option (Bor Bool)) (o : Option Bool) (c : Bool) → IsItemAt cs i r → o ≡ option_copied r → o ≡ Some c → slice_get cs i ≡ Some c
looked_up cs i r o c h e q = go r h ∙ (sym e ∙ q)
  where
    go : (r : Option (Bor Bool)) → IsItemAt cs i r → slice_get cs i ≡ option_copied r
    go None h = slice_get_past cs i h.3
    go (Some x) h = slice_get_read cs (length cs) i x.now refl h.3.0 h.1

-- two numbers swapped
pub swapped_two : (ids : List ℕ) (x y : ℕ) → length ids ≡ 2 → x ≡ get_or ids 1 x → y ≡ get_or ids 0 y → swapped ids ≡ x ∷ y ∷ []
swapped_two [] x y l e d = absurd (omega arith)
swapped_two (a ∷ []) x y l e d = absurd (omega arith)
swapped_two (a ∷ b ∷ []) x y l e d = cc
swapped_two (a ∷ b ∷ c ∷ ids) x y l e d = absurd (omega arith)

swapped_others : (ids : List ℕ) → (length ids ≡ 2 → ⊥) → swapped ids ≡ ids
swapped_others [] h = refl
swapped_others (a ∷ []) h = refl
swapped_others (a ∷ b ∷ []) h = absurd (h (omega arith))
swapped_others (a ∷ b ∷ c ∷ ids) h = refl

pub order_long : (b : Bool) (ids : List ℕ) → (length ids ≡ 2 → ⊥) → (if b then swapped ids else ids) ≡ ids
order_long true ids h = swapped_others ids h
order_long false ids h = refl

pub order_written : (b : Bool) (ids : List ℕ) → b ≡ false → (if b then swapped ids else ids) ≡ ids
order_written true ids e = absurd cc
order_written false ids e = refl

-- ---- trees in a list, one after the other
pub goes_start : (f : FuncRecord) (cs : List Bool) (ps : List Pattern) (ids : List ℕ) (t : List Bound) (used : ℕ) → Goes f cs ps ids 0 t t used used
goes_start f cs ps ids t used = record {
  keeps = keeps_self t;
  holds = λ more bs k h. h;
  least = λ more bs k h. (k, h);
  variables = refl;
  used = refl;
  within = λ l. l;
  numbered = λ h. h;
}

-- the i-th tree and number, and the further ones
front : {X : Type 0} (xs : List X) (i : ℕ) (x : X) → i < length xs → x ≡ get_or xs i x → drop i xs ≡ x ∷ drop (i + 1) xs
front xs i x l e = drop_more xs i x l ∙ ap (λ q. q ∷ drop (i + 1) xs) (sym e)

-- trees that match, taken apart at the i-th
apart : (f : FuncRecord) (bs : List Bound) (ps : List Pattern) (ids : List ℕ) (i : ℕ) (p : Pattern) (id : ℕ) (cs : List Bool) →
    drop i ps ≡ p ∷ drop (i + 1) ps → drop i ids ≡ id ∷ drop (i + 1) ids → PatternsMatch f bs (drop i ps) (drop i ids) cs →
    Matches f bs p id cs × PatternsMatch f bs (drop (i + 1) ps) (drop (i + 1) ids) (drop (orders p) cs)
apart f bs ps ids i p id cs e d h =
    subst (λ (xs : List ℕ). PatternsMatch f bs (p ∷ drop (i + 1) ps) xs cs) d (subst (λ (xs : List Pattern). PatternsMatch f bs xs (drop i ids) cs) e h)

together : (f : FuncRecord) (bs : List Bound) (ps : List Pattern) (ids : List ℕ) (i : ℕ) (p : Pattern) (id : ℕ) (cs : List Bool) →
    drop i ps ≡ p ∷ drop (i + 1) ps → drop i ids ≡ id ∷ drop (i + 1) ids → Matches f bs p id cs →
    PatternsMatch f bs (drop (i + 1) ps) (drop (i + 1) ids) (drop (orders p) cs) → PatternsMatch f bs (drop i ps) (drop i ids) cs
together f bs ps ids i p id cs e d h k =
    subst (λ (xs : List ℕ). PatternsMatch f bs (drop i ps) xs cs) (sym d) (subst (λ (xs : List Pattern). PatternsMatch f bs xs (id ∷ drop (i + 1) ids) cs) (sym e) (h, k))

pub goes_on : (f : FuncRecord) (cs : List Bool) (ps : List Pattern) (ids : List ℕ) (i : ℕ) (p : Pattern) (id : ℕ) (t u w : List Bound) (used now later : ℕ) →
    Goes f cs ps ids i t u used now → i < length ps → i < length ids → p ≡ get_or ps i p → id ≡ get_or ids i id →
    Stood cs (variables p) (orders p) (λ bs cs. Matches f bs p id cs) u w now later → Goes f cs ps ids (i + 1) t w used later
goes_on f cs ps ids i p id t u w used now later g l m e d s =
    let fp : drop i ps ≡ p ∷ drop (i + 1) ps = front ps i p l e in
    let fi : drop i ids ≡ id ∷ drop (i + 1) ids = front ids i id m d in
    let dd : (more : List Bool) → drop (orders p) (drop now (cs ++ more)) ≡ drop later (cs ++ more) = λ more. drop-drop (orders p) now (cs ++ more) ∙ ap (λ n. drop n (cs ++ more)) (sym s.used) in
    let sv : max (length u) (max (variables p) (most_variables (drop (i + 1) ps))) ≡ max (length t) (most_variables ps) = ap (λ (xs : List Pattern). max (length u) (most_variables xs)) (sym fp) ∙ g.variables in
    let so : now + (orders p + sum_orders (drop (i + 1) ps)) ≡ used + sum_orders ps = ap (λ (xs : List Pattern). now + sum_orders xs) (sym fp) ∙ g.used in
    let sw : length w ≡ max (length u) (variables p) = (s.binds []).variables in
    record {
      keeps = keeps_all t u w g.keeps (s.binds []).keeps;
      holds = λ more bs k h. g.holds more bs (keeps_all u w bs (s.binds []).keeps k)
          (together f bs ps ids i p id (drop now (cs ++ more)) fp fi ((s.binds more).holds bs k)
          (subst (λ (xs : List Bool). PatternsMatch f bs (drop (i + 1) ps) (drop (i + 1) ids) xs) (sym (dd more)) h));
      least = λ more bs k h. (let (a, b) = g.least more bs k h in
          let (x, y) = apart f bs ps ids i p id (drop now (cs ++ more)) fp fi b in
          ((s.binds more).least bs a x, subst (λ (xs : List Bool). PatternsMatch f bs (drop (i + 1) ps) (drop (i + 1) ids) xs) (dd more) y));
      variables = omega (arith, sv, sw);
      used = omega (arith, so, s.used);
      within = λ n. s.within (g.within n);
      numbered = λ h. subst (λ (n : ℕ). PatternsNumbered n (drop (i + 1) ps)) (sym sw) (subst (PatternsNumbered (length u)) fp (g.numbered h)).1;
    }

pub goes_end : (f : FuncRecord) (cs : List Bool) (ps : List Pattern) (ids : List ℕ) (i : ℕ) (t u : List Bound) (used now : ℕ) →
    Goes f cs ps ids i t u used now → length ps ≤ i → length ids ≤ i → Stood cs (most_variables ps) (sum_orders ps) (λ bs cs. PatternsMatch f bs ps ids cs) t u used now
goes_end f cs ps ids i t u used now g l m =
    let ep : drop i ps ≡ [] = drop_all i ps l in
    let ei : drop i ids ≡ [] = drop_all i ids m in
    let sv : max (length u) 0 ≡ max (length t) (most_variables ps) = ap (λ (xs : List Pattern). max (length u) (most_variables xs)) (sym ep) ∙ g.variables in
    let so : now + 0 ≡ used + sum_orders ps = ap (λ (xs : List Pattern). now + sum_orders xs) (sym ep) ∙ g.used in
    record {
      binds = λ more. record {
        keeps = g.keeps;
        holds = λ bs k. g.holds more bs k (subst (λ (xs : List ℕ). PatternsMatch f bs (drop i ps) xs (drop now (cs ++ more))) (sym ei) (subst (λ (xs : List Pattern). PatternsMatch f bs xs [] (drop now (cs ++ more))) (sym ep) tt));
        least = λ bs k h. (g.least more bs k h).0;
        variables = omega (arith, sv);
      };
      used = omega (arith, so);
      within = g.within;
    }

-- the i-th tree fails, and so do all
pub goes_fails : (f : FuncRecord) (cs : List Bool) (ps : List Pattern) (ids : List ℕ) (i : ℕ) (p : Pattern) (id : ℕ) (t u : List Bound) (used now : ℕ) →
    Goes f cs ps ids i t u used now → i < length ps → i < length ids → p ≡ get_or ps i p → id ≡ get_or ids i id →
    Failed cs (λ bs cs. Matches f bs p id cs) u now → Failed cs (λ bs cs. PatternsMatch f bs ps ids cs) t used
goes_fails f cs ps ids i p id t u used now g l m e d h = λ more bs k x.
    let (a, b) = g.least more bs k x in
    h more bs a (apart f bs ps ids i p id (drop now (cs ++ more)) (front ps i p l e) (front ids i id m d) b).0

pub goes_numbered : (f : FuncRecord) (cs : List Bool) (ps : List Pattern) (ids : List ℕ) (i : ℕ) (p : Pattern) (t u : List Bound) (used now : ℕ) →
    Goes f cs ps ids i t u used now → i < length ps → p ≡ get_or ps i p → PatternsNumbered (length t) ps → IsNumbered (length u) p
goes_numbered f cs ps ids i p t u used now g l e h = (subst (PatternsNumbered (length u)) (front ps i p l e) (g.numbered h)).0

other_length : (f : FuncRecord) (bs : List Bound) (ps : List Pattern) (ids : List ℕ) (cs : List Bool) → PatternsMatch f bs ps ids cs → length ps ≡ length ids
other_length f bs [] [] cs h = refl
other_length f bs [] (id ∷ ids) cs h = absurd h
other_length f bs (p ∷ ps) [] cs h = absurd h
other_length f bs (p ∷ ps) (id ∷ ids) cs (a, h) = (let e = other_length f bs ps ids (drop (orders p) cs) h in omega (arith, e))

pub failed_length : (f : FuncRecord) (cs : List Bool) (ps : List Pattern) (ids : List ℕ) (t : List Bound) (used : ℕ) → (length ps ≡ length ids → ⊥) →
    Failed cs (λ bs cs. PatternsMatch f bs ps ids cs) t used
failed_length f cs ps ids t used h = λ more bs k x. h (other_length f bs ps ids (drop used (cs ++ more)) x)

-- an order that the i-th tree asks for is one that the trees ask for
pub asks_at : (ps : List Pattern) (i n : ℕ) (p : Pattern) (used now : ℕ) → now + sum_orders (drop i ps) ≡ used + sum_orders ps →
    i < length ps → p ≡ get_or ps i p → n < now + orders p → n < used + sum_orders ps
asks_at ps i n p used now g l e h =
    let so : now + (orders p + sum_orders (drop (i + 1) ps)) ≡ used + sum_orders ps = ap (λ (xs : List Pattern). now + sum_orders xs) (sym (front ps i p l e)) ∙ g in
    omega (arith, so, h)

-- the trees of which i were tried
pub used_on : (ps : List Pattern) (i : ℕ) (p : Pattern) (used now later : ℕ) → now + sum_orders (drop i ps) ≡ used + sum_orders ps →
    i < length ps → p ≡ get_or ps i p → later ≡ now + orders p → later + sum_orders (drop (i + 1) ps) ≡ used + sum_orders ps
used_on ps i p used now later g l e h =
    let so : now + (orders p + sum_orders (drop (i + 1) ps)) ≡ used + sum_orders ps = ap (λ (xs : List Pattern). now + sum_orders xs) (sym (front ps i p l e)) ∙ g in
    omega (arith, so, h)
