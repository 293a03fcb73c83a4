-- What values name of memory.
use Rattle.std.proofs.Common.{◌≡◌, ◌∙◌, sym, refl, ap, subst, ℕ, ◌+◌, ◌<◌, ◌↔◌, List, get_or, Option, None, Some, ⊎_elim}
use Rattle.std.specs.List.{Contains, slice_get}
use Rattle.std.specs.Option.{MatchOption}
use Rattle.std.proofs.lemmas.Bool.{cases_order}
use Rattle.std.proofs.lemmas.Option.{none-some, same_Some}
use Rattle.bk_ops.specs.Table.{entry}
use Rattle.bk_ops.specs.declared.family.Family.TheVariants.{InitMem}
use Rattle.bk_func.specs.Records.{ValueRecord, BlockRecord, FuncRecord}
use Rattle.bk_func.specs.Form.Text.{HasValue, IsFirstIn, IsPhi}
use Rattle.bk_func.specs.Form.States.{IsFirstInit, IsState, StandsFor, itself, copied, NamesAt, Names}
use Rattle.bk_places.proofs.Elements.{contains_at, at_contains, at_some}
use Rattle.bk_places.specs.Named.{NamesBy}
use Rattle.bk_form.specs.Roots.{AreRoots}
use Rattle.bk_form.specs.Naming.{GivesState, IsFirstOf, NamesPlace, NamesIf}
use Rattle.bk_form.specs.Numbers.{value_ids, sole}
use Rattle.bk_form.specs.Places.{NodeRecord, node_at, nodes_of}
use Rattle.bk_places.proofs.NamesAt.{phi_names as phi_names_at}
use Rattle.bk_form.proofs.Copied.{AreValues}
use Rattle.bk_form.proofs.Standing.{node_for, node_of, one_value}

pub phi_names : (f : FuncRecord) (v : ValueRecord) → IsPhi v → (s : ℕ) → ¬ Names f v s
phi_names f v phi s (k, n, at, g, stands) = phi_names_at v phi k at

-- what stands for something stands for a value of the function
pub stands_there : (f : FuncRecord) (n s : ℕ) → StandsFor f n s → (r : ℕ) × (o : NodeRecord) × (slice_get (nodes_of f) r ≡ Some o) × (o.value.id ≡ s)
stands_there f _ _ (itself b v (hb, hv) other) =
    let (i, e) = at_contains f.blocks b hb in
    let (p, at) = node_for 0 f.blocks i b v e hv in
    (p, node_at (0 + i) v, at, refl)
stands_there f _ _ (copied b v n m has copies first rest) = stands_there f n m rest

-- the state that a value names
argument_node : (f : FuncRecord) → AreValues f → (b : BlockRecord) (v : ValueRecord) → HasValue f b v → (n p k : ℕ) → slice_get v.args k ≡ Some n → sole (value_ids f) n ≡ Some p
    → (m : NodeRecord) × (slice_get (nodes_of f) p ≡ Some m) × (m.value.id ≡ n)
argument_node f named b v has n p k g place =
    let number = named.argument b v k n has g in
    let (q, m, s, at, id) = node_of f n number in
    (m, subst (λ (x : ℕ). slice_get (nodes_of f) x ≡ Some m) (same_Some q p (sym s ∙ place)) at, id)

root_none : (f : FuncRecord) → AreValues f → (rs : List (Option ℕ)) → AreRoots f rs → (b : BlockRecord) (v : ValueRecord) → HasValue f b v → (n p : ℕ)
    → ((m : ℕ) → NamesBy v m ↔ (m ≡ n)) → sole (value_ids f) n ≡ Some p → get_or rs p None ≡ None → (s : ℕ) → ¬ Names f v s
root_none f named rs roots b v has n p by place none s (k, m, at, g, stands) =
    let is : m ≡ n = (by m).0 (k, at, g) in
    let (x, ex, id) = argument_node f named b v has n p k (g ∙ ap Some is) place in
    let (r, o, eo, io) = stands_there f m s stands in
    let at_root : StandsFor f x.value.id o.value.id = subst (λ (y : ℕ). StandsFor f y o.value.id) (is ∙ sym id) (subst (λ (y : ℕ). StandsFor f m y) (sym io) stands) in
    none-some r (sym none ∙ (roots.each p r x o ex eo).1 at_root)

root_some : (f : FuncRecord) → AreValues f → (rs : List (Option ℕ)) → AreRoots f rs → (b : BlockRecord) (v : ValueRecord) → HasValue f b v → (n p r : ℕ)
    → ((m : ℕ) → NamesBy v m ↔ (m ≡ n)) → sole (value_ids f) n ≡ Some p → get_or rs p None ≡ Some r → NamesPlace f v r
root_some f named rs roots b v has n p r by place e =
    let (k, at, g) = (by n).1 refl in
    let (x, ex, id) = argument_node f named b v has n p k g place in
    let (o, eo) = at_some (nodes_of f) r (roots.within p r e) in (
      o,
      eo,
      λ s. (to k at g x ex id o eo s, λ is. (k, n, at, g, subst (λ (y : ℕ). StandsFor f n y) (sym is) (subst (λ (y : ℕ). StandsFor f y o.value.id) id ((roots.each p r x o ex eo).0 e)))),
    )
  where
    to : (k : ℕ) → NamesAt v k → slice_get v.args k ≡ Some n → (x : NodeRecord) → slice_get (nodes_of f) p ≡ Some x → x.value.id ≡ n → (o : NodeRecord) → slice_get (nodes_of f) r ≡ Some o
        → (s : ℕ) → Names f v s → s ≡ o.value.id
    to k at g x ex id o eo s (j, m, at', g', stands) =
        let is : m ≡ n = (by m).0 (j, at', g') in
        let (q, u, eu, iu) = stands_there f m s stands in
        let at_root : StandsFor f x.value.id u.value.id = subst (λ (y : ℕ). StandsFor f y u.value.id) (is ∙ sym id) (subst (λ (y : ℕ). StandsFor f m y) (sym iu) stands) in
        let same : q ≡ r = same_Some q r (sym ((roots.each p q x u ex eu).1 at_root) ∙ e) in
        let node : u ≡ o = same_Some u o (sym eu ∙ (ap (λ y. slice_get (nodes_of f) y) same ∙ eo)) in
        sym iu ∙ ap (λ (w : NodeRecord). w.value.id) node

pub names_root : (f : FuncRecord) → AreValues f → (rs : List (Option ℕ)) → AreRoots f rs → (b : BlockRecord) (v : ValueRecord) → HasValue f b v → (n p : ℕ)
    → ((m : ℕ) → NamesBy v m ↔ (m ≡ n)) → sole (value_ids f) n ≡ Some p → (o : Option ℕ) → get_or rs p None ≡ o → NamesIf f v o
names_root f named rs roots b v has n p by place None e = root_none f named rs roots b v has n p by place e
names_root f named rs roots b v has n p by place (Some r) e = root_some f named rs roots b v has n p r by place e

pub names_nothing : (f : FuncRecord) (v : ValueRecord) → ((n : ℕ) → ¬ NamesBy v n) → (s : ℕ) → ¬ Names f v s
names_nothing f v none s (k, n, at, g, stands) = none n (k, at, g)

pub names_somewhere : (f : FuncRecord) → AreValues f → (b : BlockRecord) (v : ValueRecord) → HasValue f b v → (n : ℕ) → ((m : ℕ) → NamesBy v m ↔ (m ≡ n)) → sole (value_ids f) n ≡ None → ⊥
names_somewhere f named b v has n by none =
    let (k, at, g) = (by n).1 refl in
    let (q, m, s, here, id) = node_of f n (named.argument b v k n has g) in
    none-some q (sym none ∙ s)

-- the first of a list is one
first_same : {A : Type 0} (P : A → Type 0) (xs : List A) (x y : A) → IsFirstIn P xs x → IsFirstIn P xs y → x ≡ y
first_same P xs x y (i, ei, px, before) (j, ej, py, earlier) = ⊎_elim
    (λ (same : i ≡ j). same_Some x y (sym ei ∙ (ap (slice_get xs) same ∙ ej)))
    (λ apart. absurd (⊎_elim (λ (below : i < j). earlier i x below ei px) (λ (above : j < i). before j y above ej py) apart))
    (cases_order i j)

init_stands : (f : FuncRecord) (b : BlockRecord) (v : ValueRecord) → IsFirstInit f b v → HasValue f b v
init_stands f b v (entry, (i, e, is, before)) = (contains_at f.blocks 0 b entry, contains_at b.values i v e)

-- a value is the first state of all exactly where its number is the one that is given
pub first_is : (f : FuncRecord) → AreValues f → (initial : Option ℕ) → IsFirstOf f initial → (b : BlockRecord) (v : ValueRecord) → HasValue f b v → (initial ≡ Some v.id) ↔ IsFirstInit f b v
first_is f named initial first b v has = (first_from initial first, first_to initial first)
  where
    first_from : (o : Option ℕ) → IsFirstOf f o → o ≡ Some v.id → IsFirstInit f b v
    first_from None none e = absurd (none-some v.id e)
    first_from (Some n) (c, u, init, id) e =
        let (block, value) = one_value f v.id b c v u (named.own b v has) has (init_stands f c u init) refl (id ∙ same_Some n v.id e) in
        subst (λ (w : ValueRecord). IsFirstInit f b w) (sym value) (subst (λ (d : BlockRecord). IsFirstInit f d u) (sym block) init)

    first_to : (o : Option ℕ) → IsFirstOf f o → IsFirstInit f b v → o ≡ Some v.id
    first_to None none init = absurd (none b v init)
    first_to (Some n) (c, u, (entry, one), id) (entry', one') =
        let block : c ≡ b = same_Some c b (sym entry ∙ entry') in
        let value : u ≡ v = first_same (λ (w : ValueRecord). w.op.family ≡ InitMem) b.values u v (subst (λ (d : BlockRecord). IsFirstIn (λ (w : ValueRecord). w.op.family ≡ InitMem) d.values u) block one) one' in
        ap Some (sym id ∙ ap (λ (w : ValueRecord). w.id) value)

-- the states of the function
pub state_is : (f : FuncRecord) → AreValues f → (initial : Option ℕ) → IsFirstOf f initial → (b : BlockRecord) (v : ValueRecord) → HasValue f b v → GivesState v initial ↔ IsState f b v
state_is f named initial first b v has = (
  λ ((a, c, d), e). (has, a, c, d, λ is. (first_is f named initial first b v has).0 (e is)),
  λ (h, a, c, d, e). ((a, c, d), λ is. (first_is f named initial first b v has).1 (e is)),
)

-- what the search in the entry finds
pub first_found : (f : FuncRecord) (b : BlockRecord) (o : Option ℕ) → slice_get f.blocks 0 ≡ Some b
    → MatchOption o ((v : ValueRecord) → Contains b.values v → ¬ (v.op.family ≡ InitMem)) (λ n. (v : ValueRecord) × IsFirstIn (λ u. u.op.family ≡ InitMem) b.values v × (v.id ≡ n)) → IsFirstOf f o
first_found f b None entry none = λ c v (other, (i, e, is, before)).
    none v (subst (λ (d : BlockRecord). Contains d.values v) (same_Some c b (sym other ∙ entry)) (contains_at c.values i v e)) is
first_found f b (Some n) entry (v, one, id) = (b, v, (entry, one), id)

pub none_first : (f : FuncRecord) → slice_get f.blocks 0 ≡ None → (b : BlockRecord) (v : ValueRecord) → ¬ IsFirstInit f b v
none_first f none b v (entry, one) = none-some b (sym none ∙ entry)

pub nothing_is : {A : Type 0} (o : Option A) → ((x : A) → o ≡ Some x → ⊥) → o ≡ None
nothing_is None never = refl
nothing_is (Some x) never = absurd (never x refl)
