-- The words that calls take, as what paths from the calls lead to.
use Rattle.std.proofs.Common.{◌≡◌, ◌∙◌, sym, refl, ap, subst, ℕ, ◌+◌, ◌<◌, ◌≤◌, ◌⊎◌, ◌↔◌, Bool, true, false, not, List, [], ◌∷◌, ◌++◌, length, get_or, Option, None, Some, inl, inr, ⊎_elim, ℤ, arith}
use Rattle.std.specs.Bool.{IsTrue}
use Rattle.std.specs.List.{Contains, slice_get}
use Rattle.std.specs.Option.{option_and_then}
use Rattle.std.proofs.lemmas.Bool.{cases_eq, cases_lt, false≢true}
use Rattle.std.proofs.lemmas.List.{get_or_append_left, get_or_push, length_push}
use Rattle.std.proofs.lemmas.Option.{none-some, same_Some, slice_get_within}
use Rattle.bk_ops.specs.Types.{width_of}
use Rattle.bk_ops.specs.declared.types.Target.{Target}
use Rattle.bk_ops.specs.declared.types.Ty.{Ty}
use Rattle.bk_ops.specs.declared.types.Ty.TheVariants.{Mem}
use Rattle.bk_ops.specs.Families.{is_word_call}
use Rattle.bk_ops.specs.declared.family.Family.TheVariants.{OutWord}
use Rattle.bk_func.specs.Records.{ValueRecord, BlockRecord, FuncRecord, SigRecord, PackageRecord}
use Rattle.bk_func.specs.Form.{strict}
use Rattle.bk_func.specs.Form.Text.{HasValue, IsPhi}
use Rattle.bk_func.specs.Form.Parts.{IsValueNumber}
use Rattle.bk_func.specs.Form.Signatures.{Setting, sig_of, IsBefore, last, before, ArgumentOf}
use Rattle.bk_func.specs.Form.States.{StandsFor, Names}
use Rattle.bk_func.specs.Form.Shapes.{FitsWordOf, IsMemory}
use Rattle.bk_form.specs.declared.sent.Question.{Question}
use Rattle.bk_form.specs.declared.sent.Question.TheVariants.{Misfit}
use Rattle.bk_places.proofs.Elements.{contains_at, at_contains, at_some}
use Rattle.bk_places.proofs.Reaching.{path_within}
use Rattle.bk_places.specs.Search.{IsEdge, Path, here, onward}
use Rattle.bk_form.specs.Naming.{NamesIf}
use Rattle.bk_form.specs.Numbers.{value_ids, sole}
use Rattle.bk_form.specs.Places.{NodeRecord, AllNamed, node_at, nodes_of, value_with, first_named, root_with, mark_of, mark_at}
use Rattle.bk_form.specs.Roots.{AreRoots}
use Rattle.bk_form.specs.Sent.{Passes, FitsCalls, LeadsTo, StepsTo, AreSteps, IsFoundFrom, IsCallFor, IsReachedBy, AreAnswers, AnswersCalls}
use Rattle.bk_form.proofs.Copied.{AreValues, place_for, stands_at, one_node}
use Rattle.bk_form.proofs.Named.{argument_named}
use Rattle.bk_form.proofs.Standing.{node_stands, node_in, node_alone, one_value}
use Rattle.bk_form.proofs.StateNames.{stands_there}

-- what stands in a word is what its first argument names
pub word_first : (s : Setting) (f : FuncRecord) (v u : ValueRecord) (n : ℕ) → slice_get v.args 0 ≡ Some n → value_with f n ≡ Some u
    → FitsCalls s f v ↔ ((g : SigRecord) → ArgumentOf s.pkg f v g → FitsWordOf s g v.int u.ty)
word_first s f v u n at w =
    let first : first_named f v ≡ Some u = ap (option_and_then (value_with f)) at ∙ w in (
      (λ all g a. all g u a first),
      (λ each g x a e. subst (λ (z : ValueRecord). FitsWordOf s g v.int z.ty) (same_Some u x (sym first ∙ e)) (each g a)),
    )

-- what does not fail to fit fits
eq_stable : (a b : ℕ) → ¬ ¬ (a ≡ b) → a ≡ b
eq_stable a b nn = ⊎_elim (λ e. e) (λ ne. absurd (nn ne)) (cases_eq a b)

fits_stable : (p : PackageRecord) (t : Target) (g : SigRecord) (n : ℤ) (x : Ty) → ¬ ¬ FitsWordOf (strict p t) g n x → FitsWordOf (strict p t) g n x
fits_stable p t g n x nn = λ k y e h. (
  (λ z. nn (λ fits. (fits k y e h).0 z)),
  eq_stable (width_of x t) (width_of y t) (λ ne. nn (λ fits. ne (fits k y e h).1)),
)

-- the mark of a value
pub mark_is : (f : FuncRecord) (bs : List Bool) (b : BlockRecord) (v : ValueRecord) → IsValueNumber f v.id → HasValue f b v
    → (p : ℕ) × (m : NodeRecord) × (slice_get (nodes_of f) p ≡ Some m) × (m.value ≡ v) × (mark_of f bs v.id ≡ get_or bs p false)
mark_is f bs b v one has =
    let (p, m, e, same) = place_for f b v has in
    (p, m, e, same, ap (mark_at bs) (node_alone f v.id p m one e (ap (λ (u : ValueRecord). u.id) same)))

pub answer_of : (s : Setting) (f : FuncRecord) (q : Question) (bs : List Bool) (b : BlockRecord) (v : ValueRecord) → AnswersCalls s f q bs → IsValueNumber f v.id → HasValue f b v
    → v.op.family ≡ OutWord → (mark_of f bs v.id ≡ true) ↔ ((g : SigRecord) × ArgumentOf s.pkg f v g × Passes s f q g v)
answer_of s f q bs b v answers one has word =
    let (p, m, e, same, mark) = mark_is f bs b v one has in
    let is = answers.each p m e (ap (λ (u : ValueRecord). u.op.family) same ∙ word) in (
      (λ t. subst (λ (u : ValueRecord). (g : SigRecord) × ArgumentOf s.pkg f u g × Passes s f q g u) same (is.0 (sym mark ∙ t))),
      (λ h. mark ∙ is.1 (subst (λ (u : ValueRecord). (g : SigRecord) × ArgumentOf s.pkg f u g × Passes s f q g u) (sym same) h)),
    )

not_true : (b : Bool) → ¬ (b ≡ true) → not b ≡ true
not_true true n = absurd (n refl)
not_true false n = refl

from_not : (b : Bool) → not b ≡ true → ¬ (b ≡ true)
from_not true e t = absurd (false≢true e)
from_not false e t = false≢true t

pub misfit_is : (f : FuncRecord) (v u : ValueRecord) (r : Bool) (P : ValueRecord → Type 0) → first_named f v ≡ Some u → IsTrue r ↔ P u
    → IsTrue (not r) ↔ ((x : ValueRecord) × (first_named f v ≡ Some x) × ¬ P x)
misfit_is f v u r P e is = (
  (λ t. (u, e, λ p. from_not r t (is.1 p))),
  (λ (x, g, n). not_true r (λ t. n (subst P (same_Some u x (sym e ∙ g)) (is.0 t)))),
)

-- a word that is no misfit fits all its calls
pub no_misfit : (p : PackageRecord) (t : Target) (f : FuncRecord) (bs : List Bool) (b : BlockRecord) (v : ValueRecord) (r : Bool) → AnswersCalls (strict p t) f Misfit bs → IsValueNumber f v.id
    → HasValue f b v → r ≡ not (mark_of f bs v.id) → v.op.family ≡ OutWord → (r ≡ true) ↔ FitsCalls (strict p t) f v
no_misfit p t f bs b v r answers one has e word =
    let is = answer_of (strict p t) f Misfit bs b v answers one has word in (
      (λ h g u a first. fits_stable p t g v.int u.ty (λ n. from_not (mark_of f bs v.id) (sym e ∙ h) (is.1 (g, a, (u, first, n))))),
      (λ fits. e ∙ not_true (mark_of f bs v.id) (λ m. let (g, a, (u, first, n)) = is.0 m in n (fits g u a first))),
    )

pub are_values : (f : FuncRecord) → AllNamed f → AreValues f
are_values f named = record { own = named.own; argument = λ b v k n has e. argument_named f v.args k n (named.args b v has) e }

-- the value that a number stands for
root_is : (f : FuncRecord) (rs : List (Option ℕ)) (n p r : ℕ) (o : NodeRecord) → sole (value_ids f) n ≡ Some p → get_or rs p None ≡ Some r → slice_get (nodes_of f) r ≡ Some o
    → root_with f rs n ≡ Some o.value
unfolding root_with
root_is f rs n p r o e g h = rw (e, g, h) refl

root_nowhere : (f : FuncRecord) (rs : List (Option ℕ)) (n p : ℕ) → sole (value_ids f) n ≡ Some p → get_or rs p None ≡ None → root_with f rs n ≡ None
unfolding root_with
root_nowhere f rs n p e g = rw (e, g) refl

-- which is what it stands for
root_stood : (f : FuncRecord) → AreValues f → (rs : List (Option ℕ)) → AreRoots f rs → (b : BlockRecord) (v : ValueRecord) (k : ℕ) → HasValue f b v → StandsFor f v.id k
    → (c : BlockRecord) × (u : ValueRecord) × HasValue f c u × (u.id ≡ k) × (root_with f rs v.id ≡ Some u)
root_stood f values rs roots b v k has stands =
    let (p, m, e, same) = place_for f b v has in
    let (r, o, eo, io) = stands_there f v.id k stands in
    let (c, there) = stands_at f r o eo in
    let place : sole (value_ids f) v.id ≡ Some p = node_alone f v.id p m (values.own b v has) e (ap (λ (u : ValueRecord). u.id) same) in
    let at : StandsFor f m.value.id o.value.id =
    subst (λ (u : ValueRecord). StandsFor f u.id o.value.id) (sym same) (subst (λ (j : ℕ). StandsFor f v.id j) (sym io) stands) in
    (c, o.value, there, io, root_is f rs v.id p r o place ((roots.each p r m o e eo).1 at) eo)

root_at : (f : FuncRecord) → AreValues f → (rs : List (Option ℕ)) → AreRoots f rs → (b : BlockRecord) (v : ValueRecord) (p : ℕ) (m : NodeRecord) → HasValue f b v → slice_get (nodes_of f) p ≡ Some m
    → m.value ≡ v → (o : Option ℕ) → get_or rs p None ≡ o → (w : ValueRecord) → root_with f rs v.id ≡ Some w → (c : BlockRecord) × HasValue f c w × StandsFor f v.id w.id
root_at f values rs roots b v p m has e same None g w root =
    let place : sole (value_ids f) v.id ≡ Some p = node_alone f v.id p m (values.own b v has) e (ap (λ (u : ValueRecord). u.id) same) in
    absurd (none-some w (sym (root_nowhere f rs v.id p place g) ∙ root))
root_at f values rs roots b v p m has e same (Some r) g w root =
    let place : sole (value_ids f) v.id ≡ Some p = node_alone f v.id p m (values.own b v has) e (ap (λ (u : ValueRecord). u.id) same) in
    let (o, eo) = at_some (nodes_of f) r (roots.within p r g) in
    let (c, there) = stands_at f r o eo in
    let is : o.value ≡ w = same_Some o.value w (sym (root_is f rs v.id p r o place g eo) ∙ root) in
    let stands : StandsFor f v.id o.value.id = subst (λ (u : ValueRecord). StandsFor f u.id o.value.id) same ((roots.each p r m o e eo).0 g) in
    (c, subst (λ (u : ValueRecord). HasValue f c u) is there, subst (λ (u : ValueRecord). StandsFor f v.id u.id) is stands)

pub root_memory : (f : FuncRecord) → AreValues f → (rs : List (Option ℕ)) → AreRoots f rs → (b : BlockRecord) (v w : ValueRecord) (P : ValueRecord → Type 0) → HasValue f b v
    → root_with f rs v.id ≡ Some w → ((w.ty ≡ Mem) × P w) ↔ IsMemory f v.id P
root_memory f values rs roots b v w P has root = (to, from)
  where
    to : (w.ty ≡ Mem) × P w → IsMemory f v.id P
    to (memory, p) =
        let (q, m, e, same) = place_for f b v has in
        let (c, there, stands) = root_at f values rs roots b v q m has e same (get_or rs q None) refl w root in
        (c, w, there, stands, memory, p)

    from : IsMemory f v.id P → (w.ty ≡ Mem) × P w
    from (c, u, there, stands, memory, p) =
        let (d, x, at, id, is) = root_stood f values rs roots b v u.id has stands in
        let same : u ≡ w = (one_value f u.id c d u x (values.own c u there) there at refl id).1 ∙ same_Some x w (sym is ∙ root) in
        (subst (λ (z : ValueRecord). z.ty ≡ Mem) same memory, subst P same p)

pub root_nothing : (f : FuncRecord) → AreValues f → (rs : List (Option ℕ)) → AreRoots f rs → (b : BlockRecord) (v : ValueRecord) (P : ValueRecord → Type 0) → HasValue f b v
    → root_with f rs v.id ≡ None → ¬ IsMemory f v.id P
root_nothing f values rs roots b v P has none (c, u, there, stands, memory, p) =
    let (d, x, at, id, is) = root_stood f values rs roots b v u.id has stands in
    none-some x (sym none ∙ is)

pub with_unit : {A B : Type 0} → (A ↔ B) → A ↔ (B × Unit {0})
with_unit (to, from) = ((λ a. (to a, tt)), (λ (b, u). from b))

-- a value whose search back goes on leads to what it names in its block
pub leads_nowhere : (f : FuncRecord) (m : NodeRecord) → ((s : ℕ) → ¬ Names f m.value s) → (q : ℕ) → (None ≡ Some q) ↔ LeadsTo f m q
leads_nowhere f m none q = ((λ e. absurd (none-some q e)), (λ (o, e, home, names). absurd (none o.value.id names)))

pub leads_there : (f : FuncRecord) → AreValues f → (m : NodeRecord) (p : ℕ) → NamesIf f m.value (Some p) → ((o : NodeRecord) × (slice_get (nodes_of f) p ≡ Some o) × (m.home ≡ o.home))
    → (q : ℕ) → (Some p ≡ Some q) ↔ LeadsTo f m q
leads_there f values m p (x, ex, is) (y, ey, home) q = (
  (λ e.
      let same : p ≡ q = same_Some p q e in
      let node : y ≡ x = same_Some y x (sym ey ∙ ex) in
      (x, ap (slice_get (nodes_of f)) (sym same) ∙ ex, home ∙ ap (λ (n : NodeRecord). n.home) node, (is x.value.id).1 refl)),
  (λ (o, eo, at, names). ap Some (sym (one_node f values q p o x eo ex ((is o.value.id).0 names)).0)),
)

pub leads_away : (f : FuncRecord) → AreValues f → (m : NodeRecord) (p : ℕ) → NamesIf f m.value (Some p) → ¬ ((o : NodeRecord) × (slice_get (nodes_of f) p ≡ Some o) × (m.home ≡ o.home))
    → (q : ℕ) → (None ≡ Some q) ↔ LeadsTo f m q
leads_away f values m p (x, ex, is) away q = (
  (λ e. absurd (none-some q e)),
  (λ (o, eo, at, names).
      let (place, node) = one_node f values q p o x eo ex ((is o.value.id).0 names) in
      absurd (away (x, ex, at ∙ ap (λ (n : NodeRecord). n.home) node))),
)

-- the list of the places that a value steps to
pub stepped_none : (f : FuncRecord) (m : NodeRecord) (xs : List ℕ) → xs ≡ [] → ((q : ℕ) → ¬ StepsTo f m q) → (q : ℕ) → Contains xs q ↔ StepsTo f m q
stepped_none f m xs e none q = ((λ c. let (k, l, g) = subst (λ (us : List ℕ). Contains us q) e c in absurd (omega arith)), (λ h. absurd (none q h)))

pub stepped_one : (f : FuncRecord) (m : NodeRecord) (xs : List ℕ) (p : ℕ) → xs ≡ p ∷ [] → ((q : ℕ) → (Some p ≡ Some q) ↔ LeadsTo f m q) → ¬ (IsPhi m.value ⊎ (is_word_call m.value.op.family ≡ true))
    → (q : ℕ) → Contains xs q ↔ StepsTo f m q
stepped_one f m xs p e one free q = (
  (λ c. (
    λ phi. free (inl phi),
    not_so (is_word_call m.value.op.family) (λ call. free (inr call)),
    (one q).0 (ap Some (alone (subst (λ (us : List ℕ). Contains us q) e c))),
  )),
  (λ (phi, call, leads). subst (λ (us : List ℕ). Contains us q) (sym e) (0, omega arith, same_Some p q ((one q).1 leads))),
)
  where
    alone : Contains (p ∷ []) q → p ≡ q
    alone (k, l, g) = let z : k ≡ 0 = omega arith in subst (λ (j : ℕ). get_or (p ∷ []) j q ≡ q) z g

    not_so : (b : Bool) → ¬ (b ≡ true) → b ≡ false
    not_so true n = absurd (n refl)
    not_so false n = refl

-- steps of one more value
pub steps_none : (f : FuncRecord) → AreSteps f 0 []
steps_none f = record { size = refl; edge = λ p m l. absurd (omega arith) }

pub steps_more : (f : FuncRecord) (i : ℕ) (es : List (List ℕ)) (xs : List ℕ) (m : NodeRecord) → AreSteps f i es → slice_get (nodes_of f) i ≡ Some m
    → ((q : ℕ) → Contains xs q ↔ StepsTo f m q) → AreSteps f (i + 1) (es ++ xs ∷ [])
steps_more f i es xs m steps at leads = record { size = length_push es xs ∙ (ap (λ n. n + 1) steps.size); edge = edge }
  where
    edge : (p : ℕ) (o : NodeRecord) → p < i + 1 → slice_get (nodes_of f) p ≡ Some o → (q : ℕ) → Contains (get_or (es ++ xs ∷ []) p []) q ↔ StepsTo f o q
    edge p o l e q = ⊎_elim
        (λ (low : p < i). subst (λ (ys : List ℕ). Contains ys q ↔ StepsTo f o q) (sym (get_or_append_left es (xs ∷ []) [] p (omega (arith, steps.size)))) (steps.edge p o low e q))
        (λ (high : i ≤ p).
        let same : p ≡ i = omega arith in
        let node : m ≡ o = same_Some m o (sym at ∙ (ap (slice_get (nodes_of f)) (sym same) ∙ e)) in
        subst (λ (ys : List ℕ). Contains ys q ↔ StepsTo f o q)
        (sym (get_or_push es xs [] p (omega (arith, steps.size, length_push es xs))))
        (subst (λ (n : NodeRecord). Contains xs q ↔ StepsTo f n q) node (leads q)))
        (cases_lt p i)

-- the value at a place stands in the block of its home, and the other way round
home_has : (f : FuncRecord) (i : ℕ) (b : BlockRecord) (p : ℕ) (m : NodeRecord) → slice_get f.blocks i ≡ Some b → slice_get (nodes_of f) p ≡ Some m → m.home ≡ i → HasValue f b m.value
home_has f i b p m eb em home =
    let (j, d, at, ed, inside) = node_stands 0 f.blocks p m em in
    let same : j ≡ i = omega (arith, at, home) in
    let block : d ≡ b = same_Some d b (sym ed ∙ (ap (slice_get f.blocks) same ∙ eb)) in
    (contains_at f.blocks i b eb, subst (λ (c : BlockRecord). Contains c.values m.value) block inside)

home_is : (f : FuncRecord) → AreValues f → (i : ℕ) (b : BlockRecord) (v : ValueRecord) (p : ℕ) (m : NodeRecord) → slice_get f.blocks i ≡ Some b → Contains b.values v → slice_get (nodes_of f) p ≡ Some m
    → m.value ≡ v → m.home ≡ i
home_is f values i b v p m eb inside em is =
    let (q, eq) = node_in f i b v eb inside in
    ap (λ (n : NodeRecord). n.home) (one_node f values p q m (node_at i v) em eq (ap (λ (u : ValueRecord). u.id) is)).1

-- what a path along the steps leads back to stands before the call
path_before : (f : FuncRecord) (es : List (List ℕ)) → AreSteps f (length (nodes_of f)) es → (i : ℕ) (b : BlockRecord) → slice_get f.blocks i ≡ Some b → (k : ℕ) (c : NodeRecord) → slice_get (nodes_of f) k ≡ Some c
    → c.home ≡ i → is_word_call c.value.op.family ≡ true → (a j : ℕ) → LeadsTo f c j → (p : ℕ) → Path es a j p → (m : NodeRecord) → slice_get (nodes_of f) p ≡ Some m → (m.home ≡ i) × IsBefore f b m.value c.value
path_before f es steps i b eb k c ec home call a j (o, eo, at, names) _ (here within) m em =
    let node : o ≡ m = same_Some o m (sym eo ∙ em) in
    let here' : m.home ≡ i = sym (at ∙ ap (λ (n : NodeRecord). n.home) node) ∙ home in
    (here', last m.value c.value (home_has f i b j m eb em here') (home_has f i b k c eb ec home) call (subst (λ (n : NodeRecord). Names f c.value n.value.id) node names))
path_before f es steps i b eb k c ec home call a j leads _ (onward p q path apart edge within) m em =
    let low : p < length (nodes_of f) = omega (arith, steps.size, path_within es a j p path) in
    let (x, ex) = at_some (nodes_of f) p low in
    let (there, rest) = path_before f es steps i b eb k c ec home call a j leads p path x ex in
    let (phi, other, (o, eo, at, names)) = (steps.edge p x low ex q).0 edge in
    let node : o ≡ m = same_Some o m (sym eo ∙ em) in
    let here' : m.home ≡ i = sym (at ∙ ap (λ (n : NodeRecord). n.home) node) ∙ there in (
      here',
      before m.value x.value c.value (home_has f i b q m eb em here') (home_has f i b p x eb ex there) phi other (subst (λ (n : NodeRecord). Names f x.value n.value.id) node names) rest,
    )

-- and the other way round
call_stands : (f : FuncRecord) (b : BlockRecord) (u c : ValueRecord) → IsBefore f b u c → HasValue f b c × (is_word_call c.op.family ≡ true)
call_stands f b _ _ (last u c hu hc call names) = (hc, call)
call_stands f b _ _ (before u w c hu hw phi other names rest) = call_stands f b w c rest

before_path : (f : FuncRecord) → AreValues f → (es : List (List ℕ)) → AreSteps f (length (nodes_of f)) es → (i : ℕ) (b : BlockRecord) → slice_get f.blocks i ≡ Some b → (u c : ValueRecord) → IsBefore f b u c
    → (p k : ℕ) (m o : NodeRecord) → slice_get (nodes_of f) p ≡ Some m → slice_get (nodes_of f) k ≡ Some o → m.value ≡ u → o.value ≡ c → (j : ℕ) × LeadsTo f o j × Path es (length es) j p
before_path f values es steps i b eb _ _ (last u c hu hc call names) p k m o em eo im io =
    let home : o.home ≡ m.home = home_is f values i b c k o eb hc.1 eo io ∙ sym (home_is f values i b u p m eb hu.1 em im) in
    let named : Names f o.value m.value.id = subst (λ (v : ValueRecord). Names f v m.value.id) (sym io) (subst (λ (v : ValueRecord). Names f c v.id) (sym im) names) in
    (p, (m, em, home, named), here (omega (arith, steps.size, slice_get_within (nodes_of f) p m em)))
before_path f values es steps i b eb _ _ (before u w c hu hw phi other names rest) p k m o em eo im io =
    let (q, z, ez, iz) = place_for f b w hw in
    let low : q < length (nodes_of f) = slice_get_within (nodes_of f) q z ez in
    let (j, leads, path) = before_path f values es steps i b eb w c rest q k z o ez eo iz io in
    let home : z.home ≡ m.home = home_is f values i b w q z eb hw.1 ez iz ∙ sym (home_is f values i b u p m eb hu.1 em im) in
    let named : Names f z.value m.value.id = subst (λ (v : ValueRecord). Names f v m.value.id) (sym iz) (subst (λ (v : ValueRecord). Names f w v.id) (sym im) names) in
    let edge : IsEdge es q p =
    (steps.edge q z low ez p).1 (λ h. phi (subst IsPhi iz h), ap (λ (v : ValueRecord). is_word_call v.op.family) iz ∙ other, (m, em, home, named)) in
    (j, leads, onward q p path (λ e. absurd (omega (arith, steps.size))) edge (omega (arith, steps.size, slice_get_within (nodes_of f) p m em)))

-- what a call at a place has before it
pub call_for : (s : Setting) (f : FuncRecord) (es : List (List ℕ)) (i : ℕ) (c : NodeRecord) (P : SigRecord → Type 0) (start : Option ℕ) → slice_get (nodes_of f) i ≡ Some c
    → ((g : SigRecord) → P g ↔ ((is_word_call c.value.op.family ≡ true) × (sig_of s.pkg c.value.aux ≡ Some g))) → ((q : ℕ) → (start ≡ Some q) ↔ LeadsTo f c q)
    → (g : SigRecord) (p : ℕ) → (P g × IsFoundFrom es start p) ↔ IsCallFor s f es i p g
call_for s f es i c P start at is leads g p = (
  (λ (y, (j, e, path)). let (call, sig) = (is g).0 y in (c, at, call, sig, (j, (leads j).0 e, path))),
  (λ (o, e, call, sig, (j, led, path)).
      let same : o ≡ c = same_Some o c (sym e ∙ at) in (
        (is g).1 (subst (λ (n : NodeRecord). is_word_call n.value.op.family ≡ true) same call, subst (λ (n : NodeRecord). sig_of s.pkg n.value.aux ≡ Some g) same sig),
        (j, (leads j).1 (subst (λ (n : NodeRecord). LeadsTo f n j) same led), path),
      )),
)

-- so the calls from which paths lead back to a word are those that take it
pub taken_by : (s : Setting) (f : FuncRecord) → AreValues f → (es : List (List ℕ)) → AreSteps f (length (nodes_of f)) es → (i p : ℕ) (m : NodeRecord) (g : SigRecord) → length (nodes_of f) ≤ i
    → slice_get (nodes_of f) p ≡ Some m → IsReachedBy s f es i p g ↔ ArgumentOf s.pkg f m.value g
taken_by s f values es steps i p m g over e = (to, from)
  where
    to : IsReachedBy s f es i p g → ArgumentOf s.pkg f m.value g
    to (k, l, (c, ec, call, sig, (j, leads, path))) =
        let (h, b, at, eb, inside) = node_stands 0 f.blocks k c ec in
        let home : c.home ≡ h = omega (arith, at) in
        (b, c.value, (path_before f es steps h b eb k c ec home call (length es) j leads p path m e).1, sig)

    from : ArgumentOf s.pkg f m.value g → IsReachedBy s f es i p g
    from (b, c, stands, sig) =
        let (has, call) = call_stands f b m.value c stands in
        let (h, eb) = at_contains f.blocks b has.0 in
        let (k, o, eo, io) = place_for f b c has in
        let low = slice_get_within (nodes_of f) k o eo in (
          k,
          omega arith,
          (
            o,
            eo,
            ap (λ (v : ValueRecord). is_word_call v.op.family) io ∙ call,
            ap (λ (v : ValueRecord). sig_of s.pkg v.aux) io ∙ sig,
            before_path f values es steps h b eb m.value c stands p k m o e eo refl io,
          ),
        )

pub answered_all : (s : Setting) (f : FuncRecord) → AreValues f → (q : Question) (es : List (List ℕ)) (i : ℕ) (bs : List Bool) → AreSteps f (length (nodes_of f)) es → length (nodes_of f) ≤ i
    → AreAnswers f (IsReachedBy s f es i) (Passes s f q) bs → AnswersCalls s f q bs
answered_all s f values q es i bs steps over answers = record {
  each = λ p m e word. (
    (λ t. let (g, r, y) = (answers.each p m e).0 t in (g, (taken_by s f values es steps i p m g over e).0 r, y)),
    (λ (g, a, y). (answers.each p m e).1 (g, (taken_by s f values es steps i p m g over e).1 a, y)),
  );
}

-- a call that names nothing in its block has nothing before it
pub asked_nowhere : (o : Option SigRecord) (A D : Type 0) (Q : SigRecord → Type 0) → ¬ D → A ↔ (A ⊎ ((g : SigRecord) × (o ≡ Some g) × D × Q g))
asked_nowhere o A D Q none = ((λ a. inl a), (λ h. ⊎_elim (λ a. a) (λ (g, e, d, q). absurd (none d)) h))

pub found_from : (es : List (List ℕ)) (start : Option ℕ) (k p : ℕ) → start ≡ Some k → Path es (length es) k p ↔ IsFoundFrom es start p
found_from es start k p is = ((λ path. (k, is, path)), (λ (j, e, path). subst (λ (x : ℕ). Path es (length es) x p) (same_Some j k (sym e ∙ is)) path))

-- a call that has no signature takes no words
pub asked_none : (o : Option SigRecord) (A D : Type 0) (Q : SigRecord → Type 0) → o ≡ None → A ↔ (A ⊎ ((g : SigRecord) × (o ≡ Some g) × D × Q g))
asked_none o A D Q none = ((λ a. inl a), (λ h. ⊎_elim (λ a. a) (λ (g, e, d, q). absurd (none-some g (sym none ∙ e))) h))

-- and one that has one takes those that a search reaches
pub asked_one : (o : Option SigRecord) (h : SigRecord) (A B C D : Type 0) (Q : SigRecord → Type 0) → o ≡ Some h → A ↔ (B ⊎ (C × Q h)) → C ↔ D
    → A ↔ (B ⊎ ((g : SigRecord) × (o ≡ Some g) × D × Q g))
asked_one o h A B C D Q e is same = (
  (λ a. ⊎_elim (λ b. inl b) (λ (c, q). inr (h, e, same.0 c, q)) (is.0 a)),
  (λ k. is.1 (⊎_elim (λ b. inl b) (λ (g, f, d, q). inr (same.1 d, subst Q (same_Some g h (sym f ∙ e)) q)) k)),
)

pub nothing_there : {A : Type 0} (o : Option A) → ((x : A) → o ≡ Some x → ⊥) → o ≡ None
nothing_there None h = refl
nothing_there (Some x) h = absurd (h x refl)
