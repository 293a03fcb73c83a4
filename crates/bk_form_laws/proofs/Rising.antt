-- The values that a right tree makes take older ones; so a rule makes no cycle in the base of the order.
use Rattle.std.proofs.Common.{◌≡◌, ℕ, suc, ◌+◌, ◌<◌, sym, subst, arith, ◌⊎◌, inl, inr, List, [], ◌∷◌, ◌++◌, length, length-append, Bool}
use Rattle.std.specs.Prelude.{slice_get}
use Rattle.bk_func.specs.Records.{ValueRecord, BlockRecord, FuncRecord}
use Rattle.bk_func.specs.Form.States.{Names}
use Rattle.bk_func.specs.Form.Before.{IsLoad, IsNilCheck}
use Rattle.bk_func.specs.Form.Signatures.{Setting}
use Rattle.bk_func.proofs.Faults.{In}
use Rattle.bk_rule.specs.declared.trees.Bound.{Bound}
use Rattle.bk_rule.specs.declared.trees.Pattern.{Pattern}
use Rattle.bk_rule.specs.declared.trees.Build.{Build, Row_of-Build, end_of-Build, more_of-Build}
use Rattle.bk_rule.specs.declared.trees.Build as build
use Rattle.bk_rule.specs.declared.trees.Rule.{Rule}
use Rattle.bk_rule.specs.Bindings.{value_in}
use Rattle.bk_rewrite.specs.Making.{Source, source, node_made, result_type, values_made, row_made, name_made, row_names, inner_made, applied, next_number}
use Rattle.bk_refine_laws.specs.Trees.{NamesBelow}
use Rattle.bk_form_laws.specs.Rules.{IsBuilt, AreBuilt, IsRead, IsPure}
use Rattle.bk_form_laws.specs.Typed.{KeepsTypes}
use Rattle.bk_form_laws.specs.Kinds.{Applies, Nearly, HasNoCycle, AllReached}
use Rattle.bk_places.proofs.Elements.{in_either}
use Rattle.bk_form_laws.proofs.Matched.{Under, under_number, named_below}
use Rattle.bk_form_laws.proofs.Steps.{Step, after, here, there}
use Rattle.bk_form_laws.proofs.Applied.{made_by, root_by, applied_is, nodes, step}
use Rattle.bk_form_laws.proofs.BaseKept.{IsPlaced, base_kept}
use Rattle.bk_form_laws.proofs.MemoryKept.{IsCalm}
use Rattle.bk_form_laws.proofs.Calm.{calmed}

-- a number under the root, or below a bound
abbrev IsOlder : FuncRecord → ℕ → ℕ → ℕ → Type 0
IsOlder f id n m = Under f id m ⊎ (m < n)

older_still : (f : FuncRecord) (id a b m : ℕ) → a < suc b → IsOlder f id a m → IsOlder f id b m
older_still f id a b m l (inl u) = inl u
older_still f id a b m l (inr h) = inr (omega (arith, l, h))

mutual
  old_tree : (b : Build) (c : Source) (l : Pattern) (id : ℕ) → ((i : ℕ) → NamesBelow i l → Under c.func id (value_in (slice_get c.binds i))) → IsBuilt l b → (first : ℕ) →
      ((w : ValueRecord) → In w (values_made c b first) → (m : ℕ) → In m w.args → IsOlder c.func id w.id m) × IsOlder c.func id (first + length (values_made c b first)) (name_made c b first)
  old_tree (build.Var i) c l id k h first = (λ w j. elim j [ ], inl (k i h))
  old_tree (build.Node' o ty int a shape args) c l id k (h, hs) first =
      let y : ValueRecord = node_made c (first + length (row_made c args first)) (result_type o) o ty int a (row_names c args first) in
      let r = old_row args c l id k hs first in
      let e : length (row_made c args first ++ y ∷ []) ≡ length (row_made c args first) + 1 = length-append (row_made c args first) (y ∷ []) in (
        λ w j m i. elim (in_either w (row_made c args first) (y ∷ []) j) as (λ _. IsOlder c.func id w.id m) [
          | inl z ↦ r.0 w z m i
          | inr z ↦ (elim z as (λ _. IsOlder c.func id w.id m) [
            | inl q ↦ (let P : ValueRecord → Type 0 = λ u. In m u.args in let Q : ValueRecord → Type 0 = λ u. IsOlder c.func id u.id m in subst Q q (r.1 m (subst P (sym q) i)))
            | inr q ↦ elim q [ ]
          ])
        ],
        inr (omega (arith, e)),
      )

  old_row : {n : _} (rs : Row_of-Build n) (c : Source) (l : Pattern) (id : ℕ) → ((i : ℕ) → NamesBelow i l → Under c.func id (value_in (slice_get c.binds i))) → AreBuilt l rs → (first : ℕ) →
      ((w : ValueRecord) → In w (row_made c rs first) → (m : ℕ) → In m w.args → IsOlder c.func id w.id m) × ((m : ℕ) → In m (row_names c rs first) → IsOlder c.func id (first + length (row_made c rs first)) m)
  old_row end_of-Build c l id k h first = (λ w j. elim j [ ], λ m j. elim j [ ])
  old_row (more_of-Build b rs) c l id k (h, hs) first =
      let next : ℕ = first + length (values_made c b first) in
      let t = old_tree b c l id k h first in
      let r = old_row rs c l id k hs next in
      let e : length (values_made c b first ++ row_made c rs next) ≡ length (values_made c b first) + length (row_made c rs next) = length-append (values_made c b first) (row_made c rs next) in
      let total : ℕ = first + length (values_made c b first ++ row_made c rs next) in (
        λ w j m i. elim (in_either w (values_made c b first) (row_made c rs next) j) as (λ _. IsOlder c.func id w.id m) [ inl z ↦ t.0 w z m i | inr z ↦ r.0 w z m i ],
        λ m j. elim j as (λ _. IsOlder c.func id total m) [
          | inl q ↦ subst (λ (u : ℕ). IsOlder c.func id total u) q (older_still c.func id next total (name_made c b first) (omega (arith, e)) t.1)
          | inr q ↦ older_still c.func id (next + length (row_made c rs next)) total m (omega (arith, e)) (r.1 m q)
        ],
      )

old_inner : (r : Build) (c : Source) (l : Pattern) (id : ℕ) → ((i : ℕ) → NamesBelow i l → Under c.func id (value_in (slice_get c.binds i))) → IsBuilt l r → (first : ℕ) →
    (w : ValueRecord) → In w (inner_made c r first) → (m : ℕ) → In m w.args → IsOlder c.func id w.id m
old_inner (build.Var i) c l id k h first w j m i2 = elim j [ ]
old_inner (build.Node' o ty int a shape args) c l id k (h, hs) first w j m i = (old_row args c l id k hs first).0 w j m i

-- what is known of a visit by a rule that is read
pub placed : (s : Setting) (r : Rule) (f : FuncRecord) (b k : ℕ) (x : BlockRecord) (v : ValueRecord) (bs : List Bound) (cs : List Bool) (h : Applies s r f b k x v bs cs) (d : IsRead r) (q : Nearly s f) → AllReached f →
    IsCalm (step s r f b k x v bs cs h d q.framed.missing) →
    ((w : ValueRecord) → In w (made_by s r f bs) → (n : ℕ) → ¬ Names (after (step s r f b k x v bs cs h d q.framed.missing)) w n) →
    ((n : ℕ) → Names (after (step s r f b k x v bs cs h d q.framed.missing)) (root_by s r f bs v) n → (IsLoad (root_by s r f bs v) → IsLoad v) × (IsNilCheck (root_by s r f bs v) → IsNilCheck v)) →
    IsPlaced (step s r f b k x v bs cs h d q.framed.missing)
placed s r f b k x v bs cs h d q reached calm silent role =
    let t : Step = step s r f b k x v bs cs h d q.framed.missing in
    let c : Source = source f bs s.target in
    let old = old_inner r.right c r.left v.id (λ i l. named_below r.left f bs i v.id cs d.left h.matches.stands l) d.right (next_number f) in
    record {
      calm = calm;
      uses = q.framed.uses;
      memory = q.memory;
      reached = reached x (here t).0;
      takes = λ w o. (nodes s r f b k x v bs cs h d q.framed.missing w (elim o [ inl e ↦ inl (sym e) | inr i ↦ inr i ])).args;
      rising = λ w i u j l. elim (old w i u.id l) as (λ _. u.id < w.id) [
        | inl m ↦ (let o = there f u.id (under_number s f q.framed.missing v.id u.id m) in absurd (t.visit.fresh u j o.0 o.1 o.2 o.3))
        | inr m ↦ m
      ];
      role = role;
      silent_made = silent;
    }

-- A rule that is read and keeps types, and whose roots have nothing to do with memory, makes no cycle in the base of the order.
pub no_cycle : (s : Setting) (r : Rule) (f : FuncRecord) (b k : ℕ) (x : BlockRecord) (v : ValueRecord) (bs : List Bound) (cs : List Bool) → Applies s r f b k x v bs cs → IsRead r → KeepsTypes s r → IsPure r →
    Nearly s f → AllReached f → HasNoCycle f → HasNoCycle (applied (source f bs s.target) r.right b k v)
no_cycle s r f b k x v bs cs h d y z q reached n =
    let t : Step = step s r f b k x v bs cs h d q.framed.missing in
    let a = calmed s r f b k x v bs cs h d y z q in
    let e = applied_is s r f b k x v bs cs h in
    let p : IsPlaced t = placed s r f b k x v bs cs h d q reached a.calm a.silent_made (λ m j. absurd (a.silent m j)) in
    (let P : FuncRecord → Type 0 = λ g. HasNoCycle g in subst P (sym e) (base_kept t p n))
