-- One application of a rule as it is read: it is a visit, and keeps Control, Missing, Arity and Use.
use Rattle.std.proofs.Common.{◌≡◌, ℕ, suc, ◌+◌, ◌≤◌, ◌==◌, max, refl, ap, sym, subst, arith, inl, inr, List, [], ◌∷◌, length, Some, Bool, true, false, cond}
use Rattle.std.specs.Prelude.{fold, count_by, IfSome}
use Rattle.std.proofs.lemmas.List.Sums.{sum_by-cons}
use Rattle.std.proofs.lemmas.Bool.Decides.{nat_tests}
use Rattle.bk_ops.specs.Table.{info_of}
use Rattle.bk_ops.specs.declared.types.Ty.{Ty}
use Rattle.bk_ops.specs.declared.family.Family.{Family}
use Rattle.bk_ops.specs.declared.family.Family.TheVariants as op
use Rattle.bk_func.specs.Records.{ValueRecord, BlockRecord, FuncRecord}
use Rattle.bk_func.specs.Edits.{greatest_value}
use Rattle.bk_func.specs.declared.form.FormKind.TheVariants.{Missing, Use}
use Rattle.bk_func.specs.Form.{Keeps}
use Rattle.bk_func.specs.Form.Text.{HasValue}
use Rattle.bk_func.specs.Form.Signatures.{Setting}
use Rattle.bk_func.specs.Form.Parts.{HasArity}
use Rattle.bk_func.proofs.Faults.{In}
use Rattle.bk_rule.specs.declared.trees.Bound.{Bound}
use Rattle.bk_rule.specs.declared.trees.Build.{Build}
use Rattle.bk_rule.specs.declared.trees.Build as build
use Rattle.bk_rule.specs.declared.trees.Rule.{Rule}
use Rattle.bk_rewrite.specs.Places.{in_place, with_made}
use Rattle.bk_rewrite.specs.Making.{Source, source, inner, root_made, applied, next_number}
use Rattle.bk_rewrite.proofs.Kept.{NumberedFrom, numbered_inner}
use Rattle.bk_form_laws.specs.Visits.{visited, Visit, IsNew}
use Rattle.bk_form_laws.specs.Fits.{is_special, NewNames}
use Rattle.bk_form_laws.specs.Rules.{IsRead}
use Rattle.bk_form_laws.specs.Kinds.{Applies, Framed}
use Rattle.bk_places.proofs.Elements.{to_in}
use Rattle.bk_mean.proofs.Named.{in_got}
use Rattle.bk_mean.proofs.Dominance.{defined_here}
use Rattle.bk_form_laws.proofs.Lists.{none_counted}
use Rattle.bk_form_laws.proofs.Matched.{under_number, under_defined, named_below, symbol_named}
use Rattle.bk_form_laws.proofs.Ranges.{int_named}
use Rattle.bk_form_laws.proofs.New.{IsNode, Known, all_nodes}
use Rattle.bk_form_laws.proofs.Turning.{old_here}
use Rattle.bk_form_laws.proofs.EasyKinds.{control_kept, missing_kept, arity_kept}
use Rattle.bk_form_laws.proofs.Steps.{Step}
use Rattle.bk_form_laws.proofs.UseKept.{NewUses, new_uses, use_kept}

-- ---- numbers that are new
most_from : (a : ℕ) (vs : List ValueRecord) → a ≤ fold (λ g v. max g v.id) a vs
most_from a [] = omega arith
most_from a (v ∷ vs) = (let h = most_from (max a v.id) vs in omega (arith, h))

most_holds : (a : ℕ) (vs : List ValueRecord) (v : ValueRecord) → In v vs → v.id ≤ fold (λ g v. max g v.id) a vs
most_holds a [] v i = elim i [ ]
most_holds a (u ∷ us) v (inl e) = (let h = most_from (max a u.id) us in let q = ap (λ (z : ValueRecord). z.id) e in omega (arith, h, q))
most_holds a (u ∷ us) v (inr i) = most_holds (max a u.id) us v i

all_from : (a : ℕ) (bs : List BlockRecord) → a ≤ fold (λ g b. fold (λ g v. max g v.id) g b.values) a bs
all_from a [] = omega arith
all_from a (b ∷ bs) = (let h = all_from (fold (λ g v. max g v.id) a b.values) bs in let k = most_from a b.values in omega (arith, h, k))

all_hold : (a : ℕ) (bs : List BlockRecord) (b : BlockRecord) (v : ValueRecord) → In b bs → In v b.values → v.id ≤ fold (λ g b. fold (λ g v. max g v.id) g b.values) a bs
all_hold a [] b v i j = elim i [ ]
all_hold a (c ∷ cs) b v (inl e) j =
    let k : In v c.values = (let P : BlockRecord → Type 0 = λ z. In v z.values in subst P (sym e) j) in
    let h = most_holds a c.values v k in
    let m = all_from (fold (λ g v. max g v.id) a c.values) cs in
    omega (arith, h, m)
all_hold a (c ∷ cs) b v (inr i) j = all_hold (fold (λ g v. max g v.id) a c.values) cs b v i j

below_greatest : (f : FuncRecord) (c : BlockRecord) (u : ValueRecord) → HasValue f c u → u.id ≤ greatest_value f
below_greatest f c u h = all_hold 0 f.blocks c u (to_in c f.blocks h.0) (to_in u c.values h.1)

rest_numbered : (n : ℕ) (x : ValueRecord) (xs : List ValueRecord) → NumberedFrom n (x ∷ xs) → NumberedFrom (n + 1) xs
rest_numbered n x xs h k v e = (let q = h (suc k) v e in omega (arith, q))

numbered_from : (n : ℕ) (vs : List ValueRecord) → NumberedFrom n vs → (w : ValueRecord) → In w vs → n ≤ w.id
numbered_from n vs h w i = (let r = in_got vs w i in let q = h r.0 w r.1 in omega (arith, q))

one_there : (n m : ℕ) → n ≡ m → ◌≡◌ {A = ℕ} (cond (n == m) 1 0) 1
one_there n m e = (let h : (n == m) ≡ true = grind (arith, nat_tests, e) in rw h refl)

none_there : (n m : ℕ) → ¬ (n ≡ m) → ◌≡◌ {A = ℕ} (cond (n == m) 1 0) 0
none_there n m e = go (n == m) refl
  where
    go : (t : Bool) → (n == m) ≡ t → ◌≡◌ {A = ℕ} (cond t 1 0) 0
    go true h = absurd (e (grind (arith, nat_tests, h)))
    go false h = refl

once_numbered : (n : ℕ) (vs : List ValueRecord) → NumberedFrom n vs → (w : ValueRecord) → In w vs → count_by (λ u. u.id == w.id) vs ≡ 1
once_numbered n [] h w i = elim i [ ]
once_numbered n (x ∷ xs) h w (inl e) =
    let q : x.id ≡ n + 0 = h 0 x refl in
    let d : x.id ≡ w.id = ap (λ (z : ValueRecord). z.id) e in
    let s = sum_by-cons (λ (u : ValueRecord). cond (u.id == w.id) 1 0) x xs in
    let z = none_counted xs w.id (λ u j a. (let l = numbered_from (n + 1) xs (rest_numbered n x xs h) u j in absurd (omega (arith, l, a, q, d)))) in
    let o = one_there x.id w.id d in
    omega (arith, s, z, o)
once_numbered n (x ∷ xs) h w (inr i) =
    let q : x.id ≡ n + 0 = h 0 x refl in
    let l = numbered_from (n + 1) xs (rest_numbered n x xs h) w i in
    let s = sum_by-cons (λ (u : ValueRecord). cond (u.id == w.id) 1 0) x xs in
    let r = once_numbered (n + 1) xs (rest_numbered n x xs h) w i in
    let o = none_there x.id w.id (λ (a : x.id ≡ w.id). absurd (omega (arith, l, q, a))) in
    omega (arith, s, r, o)

-- ---- the application as a visit
root_id : (s : Source) (id : ℕ) (t : Ty) (r : Build) (n : ℕ) → (root_made s id t r n).id ≡ id
root_id s id t (build.Var i) n = refl
root_id s id t (build.Node' o u x a shape args) n = refl

abbrev pub made_by : Setting → Rule → FuncRecord → List Bound → List ValueRecord
made_by s r f bs = inner (source f bs s.target) r.right

abbrev pub root_by : Setting → Rule → FuncRecord → List Bound → ValueRecord → ValueRecord
root_by s r f bs v = root_made (source f bs s.target) v.id v.ty r.right (next_number f)

pub as_visit : (s : Setting) (r : Rule) (f : FuncRecord) (b k : ℕ) (x : BlockRecord) (v : ValueRecord) (bs : List Bound) (cs : List Bool) → Applies s r f b k x v bs cs →
    Visit f b k x v (root_by s r f bs v) (made_by s r f bs)
as_visit s r f b k x v bs cs h =
    let c : Source = source f bs s.target in
    let n : NumberedFrom (next_number f) (made_by s r f bs) = numbered_inner c r.right (next_number f) in record {
      there = h.there;
      stands = h.stands;
      same = root_id c v.id v.ty r.right (next_number f);
      fresh = λ w i a u j e. (let l = numbered_from (next_number f) (made_by s r f bs) n w i in let m = below_greatest f a u j in absurd (omega (arith, l, m, e)));
      distinct = once_numbered (next_number f) (made_by s r f bs) n;
    }

pub applied_is : (s : Setting) (r : Rule) (f : FuncRecord) (b k : ℕ) (x : BlockRecord) (v : ValueRecord) (bs : List Bound) (cs : List Bool) → Applies s r f b k x v bs cs →
    applied (source f bs s.target) r.right b k v ≡ visited f b k x (root_by s r f bs v) (made_by s r f bs)
applied_is s r f b k x v bs cs h = ap (λ o. record f { blocks = in_place f.blocks b o (with_made k (root_by s r f bs v) (made_by s r f bs)) }) h.there

-- ---- what is made
pub nodes : (s : Setting) (r : Rule) (f : FuncRecord) (b k : ℕ) (x : BlockRecord) (v : ValueRecord) (bs : List Bound) (cs : List Bool) → Applies s r f b k x v bs cs → IsRead r → Keeps s f Missing →
    (w : ValueRecord) → IsNew (root_by s r f bs v) (made_by s r f bs) w → IsNode s f v.id (made_by s r f bs) w
nodes s r f b k x v bs cs h d m w n =
    let c : Source = source f bs s.target in
    let known : Known s c r.left v.id = record {
      under = λ i l. named_below r.left f bs i v.id cs d.left h.matches.stands l;
      symbol = λ i l. symbol_named r.left s f m bs i v.id cs h.matches.stands l;
      number = λ q i l. int_named r.left s f q bs i v.id cs d.left h.matches.stands l;
    } in
    let q = all_nodes r.right s c r.left v.id v.ty (next_number f) known d.right in
    elim n as (λ _. IsNode s f v.id (made_by s r f bs) w) [
      | inl e ↦ subst (IsNode s f v.id (made_by s r f bs)) e q.1
      | inr i ↦ q.0 w i
    ]

pub new_names : (s : Setting) (f : FuncRecord) (id : ℕ) (made : List ValueRecord) (w : ValueRecord) → Keeps s f Missing → IsNode s f id made w → NewNames s f made w
new_names s f id made w m h = record {
  args = λ n i. elim (h.args n i) [ inl u ↦ inl (under_number s f m id n u) | inr u ↦ inr u ];
  symbol = h.symbol;
}

arity_of : (s : Setting) (f : FuncRecord) (c : BlockRecord) (w : ValueRecord) (o : Family) → is_special o ≡ false → (info_of w.op).arity ≡ Some (length w.args) → HasArity s f c w o
unfolding HasArity
arity_of s f c w op.Phi z e = absurd cc
arity_of s f c w op.MakeResult z e = absurd cc
arity_of s f c w op.StaticLECall z e = absurd cc
arity_of s f c w op.CallRegs z e = absurd cc
arity_of s f c w op.RetRegs z e = absurd cc
arity_of s f c w _ z e = subst (λ a. IfSome a (λ n. length w.args ≡ n)) (sym e) refl

abbrev pub step : (s : Setting) (r : Rule) (f : FuncRecord) (b k : ℕ) (x : BlockRecord) (v : ValueRecord) (bs : List Bound) (cs : List Bool) → Applies s r f b k x v bs cs → IsRead r → Keeps s f Missing → Step
step s r f b k x v bs cs h d m = record {
  s = s;
  f = f;
  b = b;
  k = k;
  x = x;
  v = v;
  root = root_by s r f bs v;
  made = made_by s r f bs;
  visit = as_visit s r f b k x v bs cs h;
  missing = m;
  plain = λ w i. (nodes s r f b k x v bs cs h d m w (inr i)).plain;
}

new_use : (s : Setting) (r : Rule) (f : FuncRecord) (b k : ℕ) (x : BlockRecord) (v : ValueRecord) (bs : List Bound) (cs : List Bool) (h : Applies s r f b k x v bs cs) (d : IsRead r) (m : Keeps s f Missing) → Keeps s f Use →
    (w : ValueRecord) → IsNew (root_by s r f bs v) (made_by s r f bs) w → NewUses (step s r f b k x v bs cs h d m) w
new_use s r f b k x v bs cs h d m u w n =
    let q = nodes s r f b k x v bs cs h d m w n in record {
      no_phi = λ e. (let z = q.plain in let y = ap is_special e in cc);
      args = λ a i. elim (q.args a i) [
        | inl z ↦ inl (under_defined s f m u x v.id a z (defined_here f x v.id (v, (old_here f b k x v (root_by s r f bs v) (made_by s r f bs) (as_visit s r f b k x v bs cs h)).1, refl)))
        | inr z ↦ inr z
      ];
    }

-- A rule as it is read keeps Control, Missing, Arity and Use, in each setting.
pub framed : (s : Setting) (r : Rule) (f : FuncRecord) (b k : ℕ) (x : BlockRecord) (v : ValueRecord) (bs : List Bound) (cs : List Bool) → Applies s r f b k x v bs cs → IsRead r → Framed s f →
    Framed s (applied (source f bs s.target) r.right b k v)
framed s r f b k x v bs cs h d q =
    let t = as_visit s r f b k x v bs cs h in
    let root : ValueRecord = root_by s r f bs v in
    let made : List ValueRecord = made_by s r f bs in
    let n = nodes s r f b k x v bs cs h d q.missing in
    subst (Framed s) (sym (applied_is s r f b k x v bs cs h)) (record {
      control = control_kept s f b k x v root made q.missing t q.control;
      missing = missing_kept s f b k x v root made t (λ w i. new_names s f v.id made w q.missing (n w i)) q.missing;
      arity = arity_kept s f b k x v root made t q.missing (λ w i. arity_of s f x w w.op.family (n w i).plain (n w i).arity) q.arity;
      uses = use_kept (step s r f b k x v bs cs h d q.missing) (λ w i. new_uses (step s r f b k x v bs cs h d q.missing) w (new_use s r f b k x v bs cs h d q.missing q.uses w i)) q.uses;
    })
