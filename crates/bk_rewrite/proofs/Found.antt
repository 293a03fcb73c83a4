-- A rule whose left tree stands, whose conditions hold and whose expressions have values matches; and where it matches first.
use Rattle.std.proofs.Common.{◌≡◌, ℕ, zero, suc, ◌+◌, ◌<◌, ◌≤◌, refl, ap, sym, subst, ◌∙◌, arith, Bool, true, false, List, [], ◌∷◌, ◌++◌, append_assoc, length, get_or, Option, Some, None, inl, inr}
use Rattle.std.specs.Prelude.{slice_get, IfNone}
use Rattle.std.specs.List.{All}
use Rattle.std.proofs.lemmas.Bool.{cases_lt}
use Rattle.std.proofs.lemmas.List.{append-nil}
use Rattle.std.proofs.lemmas.Option.{slice_get_read, slice_get_within}
use Rattle.bk_ops.specs.declared.types.Target.{Target}
use Rattle.bk_ops.specs.declared.table.Op.{Op}
use Rattle.bk_func.specs.Records.{ValueRecord, FuncRecord}
use Rattle.bk_func.specs.Numbers.{value_of}
use Rattle.bk_rule.specs.declared.trees.Bound.{Bound}
use Rattle.bk_rule.specs.declared.trees.IntPart.{IntPart}
use Rattle.bk_rule.specs.declared.trees.TyPart.{TyPart}
use Rattle.bk_rule.specs.declared.trees.Expr.{Expr}
use Rattle.bk_rule.specs.declared.trees.Pattern.{Pattern, roll-Pattern}
use Rattle.bk_rule.specs.declared.trees.Pattern.TheOpen.{Pattern-F}
use Rattle.bk_rule.specs.declared.trees.Build.{Build, roll-Build}
use Rattle.bk_rule.specs.declared.trees.Build.TheOpen.{Build-F}
use Rattle.bk_rule.specs.declared.trees.Build.TheBlock.{hidden-the_row-Build-0}
use Rattle.bk_rule.specs.declared.trees.Rule.{Rule}
use Rattle.bk_rule.specs.Bindings.{bound_env}
use Rattle.bk_rule.specs.Expressions.{Env, hold_each}
use Rattle.bk_rule.specs.Sound.{HasInt, HasInts, HaveInts}
use Rattle.bk_rule.specs.Match.{Matches, IsMatch, orders, variables}
use Rattle.bk_rule.proofs.Opened.{opened}
use Rattle.bk_rewrite.specs.First.{IsNumbered, Before, IsFirst, NeverMatches, NoneMatches}
use Rattle.bk_rewrite.specs.Trials.{Keeps, Stood, Failed, Chosen, NoneChosen}
use Rattle.bk_rewrite.proofs.Standing.{keeps_self, failed_op, failed_value}

keeps_none : (bs : List Bound) → Keeps [] bs
keeps_none bs i b e = absurd (let q : None ≡ Some b = e in cc)

-- bindings that keep others, and are no more
same_binds : (t u : List Bound) → Keeps t u → length u ≡ length t → u ≡ t
same_binds [] [] k e = refl
same_binds [] (y ∷ u) k e = absurd (omega arith)
same_binds (x ∷ t) [] k e = absurd (omega arith)
same_binds (x ∷ t) (y ∷ u) k e =
    let q : y ≡ x = (let s : Some y ≡ Some x = k 0 x refl in cc) in
    ap (λ z. z ∷ u) q ∙ ap (λ zs. x ∷ zs) (same_binds t u (λ i b d. k (suc i) b d) (omega arith))

-- ---- one rule in chosen orders
before_nothing : (ds : List Bool) → Before ds [] → ⊥
before_nothing [] h = h
before_nothing (true ∷ ds) h = h
before_nothing (false ∷ ds) h = h

is_match : (t : Target) (f : FuncRecord) (r : Rule) (bs : List Bound) (id now : ℕ) (cs : List Bool) →
    Stood cs (variables r.left) (orders r.left) (λ bs cs. Matches f bs r.left id cs) [] bs 0 now → length cs ≤ orders r.left →
    hold_each t (bound_env f bs) r.conds ≡ true → HasInts t (bound_env f bs) r.right → IsMatch t f r bs id cs
is_match t f r bs id now cs s l h k = record {
  one_each = omega (arith, (s.binds []).variables);
  one_order_each = (let w = s.within (omega arith) in omega (arith, w, s.used, l));
  stands = subst (λ (ds : List Bool). Matches f bs r.left id ds) (append-nil cs) ((s.binds []).holds bs (keeps_self bs));
  holds = h;
  has_ints = k;
}

pub chosen_here : (t : Target) (f : FuncRecord) (r : Rule) (bs start : List Bound) (id now : ℕ) (cs : List Bool) → start ≡ [] →
    Stood cs (variables r.left) (orders r.left) (λ bs cs. Matches f bs r.left id cs) start bs 0 now → length cs ≤ orders r.left →
    hold_each t (bound_env f bs) r.conds ≡ true → HasInts t (bound_env f bs) r.right → Chosen t f r id cs bs cs
chosen_here t f r bs start id now cs z s l h k =
    let s0 : Stood cs (variables r.left) (orders r.left) (λ bs cs. Matches f bs r.left id cs) [] bs 0 now =
    subst (λ (w : List Bound). Stood cs (variables r.left) (orders r.left) (λ bs cs. Matches f bs r.left id cs) w bs 0 now) z s in
    record {
      rest = [];
      is = sym (append-nil cs);
      matches = is_match t f r bs id now cs s0 l h k;
      in_order = λ n others ds b m. before_nothing ds b;
    }

-- the tree stands under these bindings alone, and the rule does not match under them
pub none_here : (t : Target) (f : FuncRecord) (r : Rule) (bs start : List Bound) (id now : ℕ) (cs : List Bool) → start ≡ [] →
    Stood cs (variables r.left) (orders r.left) (λ bs cs. Matches f bs r.left id cs) start bs 0 now →
    (hold_each t (bound_env f bs) r.conds ≡ true → HasInts t (bound_env f bs) r.right → ⊥) → NoneChosen t f r id cs
none_here t f r bs start id now cs z s h = λ others ds m.
    let s0 : Stood cs (variables r.left) (orders r.left) (λ bs cs. Matches f bs r.left id cs) [] bs 0 now =
    subst (λ (w : List Bound). Stood cs (variables r.left) (orders r.left) (λ bs cs. Matches f bs r.left id cs) w bs 0 now) z s in
    let k : Keeps bs others = (s0.binds ds).least others (keeps_none others) m.stands in
    let v : length others ≡ length bs = omega (arith, m.one_each, (s0.binds ds).variables) in
    let e : others ≡ bs = same_binds bs others k v in
    h (subst (λ (w : List Bound). hold_each t (bound_env f w) r.conds ≡ true) e m.holds) (subst (λ (w : List Bound). HasInts t (bound_env f w) r.right) e m.has_ints)

pub none_fails : (t : Target) (f : FuncRecord) (r : Rule) (start : List Bound) (id : ℕ) (cs : List Bool) → start ≡ [] →
    Failed cs (λ bs cs. Matches f bs r.left id cs) start 0 → NoneChosen t f r id cs
none_fails t f r start id cs z h = λ others ds m.
    let h0 : Failed cs (λ bs cs. Matches f bs r.left id cs) [] 0 = subst (λ (w : List Bound). Failed cs (λ bs cs. Matches f bs r.left id cs) w 0) z h in
    h0 ds others (keeps_none others) m.stands

pub numbered_first : (r : Rule) (start : List Bound) → start ≡ [] → IsNumbered 0 r.left → IsNumbered (length start) r.left
numbered_first r start z h = subst (λ (w : List Bound). IsNumbered (length w) r.left) (sym z) h

-- ---- a further order: as written, then swapped
further : (t : Target) (f : FuncRecord) (r : Rule) (bs : List Bound) (id : ℕ) (cs : List Bool) (c : Bool) (ds : List Bool) →
    IsMatch t f r bs id (cs ++ c ∷ ds) → IsMatch t f r bs id ((cs ++ c ∷ []) ++ ds)
further t f r bs id cs c ds h = subst (λ (xs : List Bool). IsMatch t f r bs id xs) (sym (append_assoc cs (c ∷ []) ds)) h

pub chosen_written : (t : Target) (f : FuncRecord) (r : Rule) (id : ℕ) (start cs : List Bool) (bs : List Bound) →
    Chosen t f r id (start ++ false ∷ []) bs cs → Chosen t f r id start bs cs
chosen_written t f r id start cs bs h = record {
  rest = false ∷ h.rest;
  is = h.is ∙ append_assoc start (false ∷ []) h.rest;
  matches = h.matches;
  in_order = λ n others ds b m. go n others ds b m;
}
  where
    go : IsNumbered 0 r.left → (others : List Bound) (ds : List Bool) → Before ds (false ∷ h.rest) → IsMatch t f r others id (start ++ ds) → ⊥
    go n others [] b m = b
    go n others (true ∷ ds) b m = b
    go n others (false ∷ ds) b m = h.in_order n others ds b (further t f r others id start false ds m)

pub chosen_swapped : (t : Target) (f : FuncRecord) (r : Rule) (id : ℕ) (start cs : List Bool) (bs : List Bound) →
    (IsNumbered 0 r.left → NoneChosen t f r id (start ++ false ∷ [])) → Chosen t f r id (start ++ true ∷ []) bs cs → Chosen t f r id start bs cs
chosen_swapped t f r id start cs bs k h = record {
  rest = true ∷ h.rest;
  is = h.is ∙ append_assoc start (true ∷ []) h.rest;
  matches = h.matches;
  in_order = λ n others ds b m. go n others ds b m;
}
  where
    go : IsNumbered 0 r.left → (others : List Bound) (ds : List Bool) → Before ds (true ∷ h.rest) → IsMatch t f r others id (start ++ ds) → ⊥
    go n others [] b m = b
    go n others (true ∷ ds) b m = h.in_order n others ds b (further t f r others id start true ds m)
    go n others (false ∷ ds) b m = k n others ds (further t f r others id start false ds m)

pub none_both : (t : Target) (f : FuncRecord) (r : Rule) (id : ℕ) (start : List Bool) → length start < orders r.left →
    NoneChosen t f r id (start ++ false ∷ []) → NoneChosen t f r id (start ++ true ∷ []) → NoneChosen t f r id start
none_both t f r id start l h k bs [] m = absurd (let e = m.one_order_each in let q : length (start ++ []) ≡ length start = ap length (append-nil start) in omega (arith, l, e, q))
none_both t f r id start l h k bs (true ∷ ds) m = k bs ds (further t f r bs id start true ds m)
none_both t f r id start l h k bs (false ∷ ds) m = h bs ds (further t f r bs id start false ds m)

-- ---- the rules of a list
pub first_rule : (t : Target) (f : FuncRecord) (rules : List Rule) (id place : ℕ) (r : Rule) (bs : List Bound) (cs : List Bool) → place < length rules → r ≡ get_or rules place r →
    Chosen t f r id [] bs cs → ((k : ℕ) (s : Rule) → k < place → slice_get rules k ≡ Some s → IsNumbered 0 s.left → NeverMatches t f s id) → IsFirst t f rules id place bs cs
first_rule t f rules id place r bs cs l e h k = record {
  rule = r;
  stands = slice_get_read rules (length rules) place r refl l e;
  matches = h.matches;
  in_order = λ n others ds b m. h.in_order n others ds (subst (Before ds) h.is b) m;
  before = k;
}

pub none_more : (t : Target) (f : FuncRecord) (rules : List Rule) (id place : ℕ) (r : Rule) → place < length rules → r ≡ get_or rules place r →
    (IsNumbered 0 r.left → NoneChosen t f r id []) → ((k : ℕ) (s : Rule) → k < place → slice_get rules k ≡ Some s → IsNumbered 0 s.left → NeverMatches t f s id) →
    (k : ℕ) (s : Rule) → k < place + 1 → slice_get rules k ≡ Some s → IsNumbered 0 s.left → NeverMatches t f s id
none_more t f rules id place r l e h g k s m q n = elim (cases_lt k place) [
  | inl i ↦ g k s i q n
  | inr i ↦ (let j : k ≡ place = omega arith in
      let z : r ≡ s = (let y : Some r ≡ Some s = sym (slice_get_read rules (length rules) place r refl l e) ∙ (ap (slice_get rules) (sym j) ∙ q) in cc) in
      let n0 : IsNumbered 0 r.left = subst (λ (w : Rule). IsNumbered 0 w.left) (sym z) n in
      subst (λ (w : Rule). NeverMatches t f w id) z (λ bs cs x. h n0 bs cs x))
]

pub none_all : (t : Target) (f : FuncRecord) (rules : List Rule) (id place : ℕ) → length rules ≤ place →
    ((k : ℕ) (s : Rule) → k < place → slice_get rules k ≡ Some s → IsNumbered 0 s.left → NeverMatches t f s id) → NoneMatches t f rules id
none_all t f rules id place l h k s q n = (let m = slice_get_within rules k s q in h k s (omega arith) q n)

-- ---- the root of a tree
pub never_op : (f : FuncRecord) (bs : List Bound) (p : Pattern) (name : Option ℕ) (o : Op) (ty : Option ℕ) (int : Option IntPart) (x : Option ℕ) (ps : List Pattern) (id : ℕ) (cs : List Bool) (v : ValueRecord) →
    p ≡ roll-Pattern (Pattern-F.Node name o ty int x ps) → value_of f id ≡ Some v → v.id ≡ id → (v.op ≡ o → ⊥) → Matches f bs p id cs → ⊥
never_op f bs p name o ty int x ps id cs v is e same k m = failed_op f [] p name o ty int x ps id 0 v [] is e same k cs bs (keeps_none bs) m

pub never_value : (f : FuncRecord) (bs : List Bound) (p : Pattern) (name : Option ℕ) (o : Op) (ty : Option ℕ) (int : Option IntPart) (x : Option ℕ) (ps : List Pattern) (id : ℕ) (cs : List Bool) →
    p ≡ roll-Pattern (Pattern-F.Node name o ty int x ps) → value_of f id ≡ None → Matches f bs p id cs → ⊥
never_value f bs p name o ty int x ps id cs is e m = failed_value f [] p name o ty int x ps id 0 [] is e cs bs (keeps_none bs) m

-- ---- expressions that have values
rows_have : (t : Target) (e : Env) (xs : List Build) → All (HasInts t e) xs → HaveInts t e (hidden-the_row-Build-0 xs)
unfolding opened
rows_have t e [] h = tt
rows_have t e (x ∷ xs) h = (h 0 x (omega arith), rows_have t e xs (λ k d l. h (suc k) d (omega arith)))

have_rows : (t : Target) (e : Env) (xs : List Build) → HaveInts t e (hidden-the_row-Build-0 xs) → All (HasInts t e) xs
unfolding opened
have_rows t e [] h k d l = absurd (omega arith)
have_rows t e (x ∷ xs) (a, h) zero d l = a
have_rows t e (x ∷ xs) (a, h) (suc k) d l = have_rows t e xs h k d (omega arith)

pub node_has : (t : Target) (e : Env) (b : Build) (o : Op) (ty : Option TyPart) (int : Option Expr) (aux : Option ℕ) (xs sl : List Build) →
    b ≡ roll-Build (Build-F.Node o ty int aux xs) → sl ≡ xs → HasInt t e int → All (HasInts t e) sl → HasInts t e b
unfolding opened
node_has t e b o ty int aux xs sl is s h k =
    subst (HasInts t e) (sym is) (h, rows_have t e xs (subst (λ (ys : List Build). All (HasInts t e) ys) s k))

pub has_node : (t : Target) (e : Env) (b : Build) (o : Op) (ty : Option TyPart) (int : Option Expr) (aux : Option ℕ) (xs sl : List Build) →
    b ≡ roll-Build (Build-F.Node o ty int aux xs) → sl ≡ xs → HasInts t e b → HasInt t e int × All (HasInts t e) sl
unfolding opened
has_node t e b o ty int aux xs sl is s h =
    let (a, k) = subst (HasInts t e) is h in
    (a, subst (λ (ys : List Build). All (HasInts t e) ys) (sym s) (have_rows t e xs k))

-- ---- the same, as a trial leaves it
pub chosen_found : (t : Target) (f : FuncRecord) (r : Rule) (bs dl start : List Bound) (id now : ℕ) (cs sl : List Bool) → start ≡ [] → sl ≡ cs → dl ≡ bs →
    Stood sl (variables r.left) (orders r.left) (λ bs cs. Matches f bs r.left id cs) start bs 0 now → length cs ≤ orders r.left →
    hold_each t (bound_env f dl) r.conds ≡ true → HasInts t (bound_env f dl) r.right → Chosen t f r id cs bs cs
chosen_found t f r bs dl start id now cs sl z e d s l h k =
    chosen_here t f r bs start id now cs z (subst (λ (xs : List Bool). Stood xs (variables r.left) (orders r.left) (λ bs cs. Matches f bs r.left id cs) start bs 0 now) e s) l
    (subst (λ (w : List Bound). hold_each t (bound_env f w) r.conds ≡ true) d h) (subst (λ (w : List Bound). HasInts t (bound_env f w) r.right) d k)

pub none_found : (t : Target) (f : FuncRecord) (r : Rule) (bs dl start : List Bound) (id now : ℕ) (cs sl : List Bool) → start ≡ [] → sl ≡ cs → dl ≡ bs →
    Stood sl (variables r.left) (orders r.left) (λ bs cs. Matches f bs r.left id cs) start bs 0 now →
    (hold_each t (bound_env f dl) r.conds ≡ true → HasInts t (bound_env f dl) r.right → ⊥) → NoneChosen t f r id cs
none_found t f r bs dl start id now cs sl z e d s h =
    none_here t f r bs start id now cs z (subst (λ (xs : List Bool). Stood xs (variables r.left) (orders r.left) (λ bs cs. Matches f bs r.left id cs) start bs 0 now) e s)
    (λ x y. h (subst (λ (w : List Bound). hold_each t (bound_env f w) r.conds ≡ true) (sym d) x) (subst (λ (w : List Bound). HasInts t (bound_env f w) r.right) (sym d) y))

pub chosen_second : (t : Target) (f : FuncRecord) (r : Rule) (id : ℕ) (start mid cs : List Bool) (bs : List Bound) → mid ≡ start →
    (IsNumbered 0 r.left → NoneChosen t f r id (start ++ false ∷ [])) → Chosen t f r id (mid ++ true ∷ []) bs cs → Chosen t f r id start bs cs
chosen_second t f r id start mid cs bs e k h = chosen_swapped t f r id start cs bs k (subst (λ (xs : List Bool). Chosen t f r id (xs ++ true ∷ []) bs cs) e h)

pub none_second : (t : Target) (f : FuncRecord) (r : Rule) (id : ℕ) (start mid : List Bool) → mid ≡ start → length start < orders r.left →
    NoneChosen t f r id (start ++ false ∷ []) → NoneChosen t f r id (mid ++ true ∷ []) → NoneChosen t f r id start
none_second t f r id start mid e l h k = none_both t f r id start l h (subst (λ (xs : List Bool). NoneChosen t f r id (xs ++ true ∷ [])) e k)

pub none_then : {X : Type 0} {P Q : Type 0} (o : Option X) → (P → Q) → IfNone o P → IfNone o Q
none_then None h p = h p
none_then (Some x) h p = tt
