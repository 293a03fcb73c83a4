-- What holds of every number that a right tree over machine words can have holds of the numbers of the values that it makes.
use Rattle.std.proofs.Common.{◌≡◌, ℕ, ◌+◌, refl, ap, subst, sym, ◌∙◌, List, [], ◌∷◌, length, map, Option, Some, None, true, inl, ℤ, pos}
use Rattle.std.specs.Prelude.{slice_get, if◌then◌else◌, IsSome}
use Rattle.bk_ops.specs.declared.types.Target.{Target}
use Rattle.bk_ops.specs.declared.types.Ty.{Ty}
use Rattle.bk_ops.specs.declared.types.Ty.TheVariants as ty
use Rattle.bk_ops.specs.declared.table.Op.{Op}
use Rattle.bk_ops.specs.declared.table.OpInfo.{OpInfo}
use Rattle.bk_ops.specs.declared.table.Class.{Class}
use Rattle.bk_ops.specs.declared.table.Class.TheVariants as class
use Rattle.bk_ops.specs.Table.{row, info_of, is_op, unknown}
use Rattle.bk_ops.specs.Types.{width_of}
use Rattle.bk_ops.specs.Values.{op_value}
use Rattle.bk_func.specs.Records.{ValueRecord, FuncRecord}
use Rattle.bk_func.specs.Numbers.{Program, Env as Numbers, Origin, computed, origin_of}
use Rattle.bk_func.proofs.Faults.{In}
use Rattle.bk_rule.specs.declared.trees.Bound.{Bound}
use Rattle.bk_rule.specs.declared.trees.TyPart.{TyPart}
use Rattle.bk_rule.specs.declared.trees.TyPart.TheVariants as ty_part
use Rattle.bk_rule.specs.declared.trees.Expr.{Expr}
use Rattle.bk_rule.specs.declared.trees.Build.{Build, Row_of-Build, end_of-Build, more_of-Build}
use Rattle.bk_rule.specs.declared.trees.Build as build
use Rattle.bk_rule.specs.Bindings.{value_in, bound_env}
use Rattle.bk_rule.specs.Expressions.{Env, expr_value}
use Rattle.bk_rule.specs.Sound.{HasInt, HasInts, HaveInts}
use Rattle.bk_rule.specs.WordSound.{Setting, value_at, bits, width_by, pure_number, number_from, EachOf, EachNumber, AtInt, WithInt, type_made as type_of, aux_made as aux_of, ForMade, ForAllMade, AgreeIn, DoTheSame, IsValue, MakesTheSame}
use Rattle.bk_rewrite.specs.Making.{Source, source, type_by, type_made, int_as, int_made, node_made, result_type, values_made, row_made, name_made, row_names, inner_made, root_made}
use Rattle.bk_refine_laws.specs.Possible.{HasLow, MayBe}
use Rattle.bk_refine_laws.specs.Trees.{env_by}
use Rattle.bk_refine_laws.specs.Words.{setting_of, Builds, BuildsValues, BuildEach}
use Rattle.bk_refine_laws.proofs.Expressions.{expr_same}
use Rattle.bk_refine_laws.proofs.Made.{kept_value, in_left, in_right}
use Rattle.bk_refine_laws.proofs.WordLeft.{low_of}

abbrev From : Program → FuncRecord → List Bound → Source
From p f bs = source f bs p.target

-- m gives these values of g numbers that they may have
abbrev pub AreMay : Program → FuncRecord → Numbers → (ℕ → ℕ) → List ValueRecord → Type 0
AreMay p g e m ws = (w : ValueRecord) → In w ws → MayBe (origin_of w.op.family) p g e m w (m w.id)

-- the type that is written, else the other one
same_type : (f : FuncRecord) (m : ℕ → ℕ) (bs : List Bound) (u : Option TyPart) (t : Ty) → type_of (env_by f m bs) t u ≡ type_made bs u t
same_type f m bs None t = refl
same_type f m bs (Some (ty_part.Is x)) t = refl
same_type f m bs (Some (ty_part.Var i)) t = refl

-- the width of an inner value
same_width : (f : FuncRecord) (m : ℕ → ℕ) (bs : List Bound) (u : Option TyPart) (t : Target) (c : Class) → (c ≡ class.Void → ⊥) →
    width_by c (type_of (env_by f m bs) ty.Ptr u) t ≡ width_by c (type_made bs u (type_by c)) t
same_width f m bs u t class.ByType n = ap (λ x. width_of x t) (same_type f m bs u ty.Ptr)
same_width f m bs u t class.Void n = absurd (n refl)
same_width f m bs u t (class.Number w) n = refl
same_width f m bs u t class.Word n = refl
same_width f m bs u t class.Bool n = refl
same_width f m bs u t class.Mem n = refl
same_width f m bs u t class.Tuple n = refl

row_info : (o : Op) → is_op o.family o.a o.b ≡ true → info_of o ≡ (row o.family o.a o.b).info
unfolding info_of
row_info o e = ap (λ c. if c then (row o.family o.a o.b).info else unknown) e

inner_width : (f : FuncRecord) (m : ℕ → ℕ) (bs : List Bound) (u : Option TyPart) (t : Target) (o : Op) → Builds o →
    width_by (row o.family o.a o.b).info.result (type_of (env_by f m bs) ty.Ptr u) t ≡ width_by (row o.family o.a o.b).info.result (type_made bs u (result_type o)) t
inner_width f m bs u t o h =
    same_width f m bs u t (row o.family o.a o.b).info.result h.class
    ∙ ap (λ (i : OpInfo). width_by (row o.family o.a o.b).info.result (type_made bs u (type_by i.result)) t) (sym (row_info o h.known))

-- the number beside an op: what holds at the expression's value
at_made_int : (f : FuncRecord) (m : ℕ → ℕ) (bs : List Bound) (p : Program) (o : Op) (int : Option Expr) → HasInt p.target (env_by f m bs) int → (P : ℤ → Type 0) → WithInt p.target (env_by f m bs) int P →
    (k : ℤ) × P k × ((ns : List ℕ) → op_value o (int_made (From p f bs) o int) ns p.target ≡ op_value o k ns p.target)
at_made_int f m bs p o None h P r = (pos 0, r, λ ns. refl)
at_made_int f m bs p o (Some x) h P r = go (expr_value p.target (env_by f m bs) x) refl h r
  where
    go : (u : Option ℤ) → expr_value p.target (env_by f m bs) x ≡ u → IsSome u → AtInt u P →
        (k : ℤ) × P k × ((ns : List ℕ) → op_value o (int_made (From p f bs) o (Some x)) ns p.target ≡ op_value o k ns p.target)
    go None d s q = absurd cc
    go (Some k) d s q =
        let z : expr_value p.target (bound_env f bs) x ≡ Some k = sym (expr_same x p.target (bound_env f bs) (λ i. m (value_in (slice_get bs i)))) ∙ d in
        (k, q, λ ns. ap (λ y. op_value o (int_as o y) ns p.target) z ∙ kept_value o.family o.a o.b k ns p.target)

may_low : (c : Origin) → c ≡ computed → (p : Program) (g : FuncRecord) (e : Numbers) (m : ℕ → ℕ) (w : ValueRecord) (n : ℕ) → MayBe c p g e m w n →
    HasLow (op_value w.op w.int (map m w.args) p.target) (bits p.target w) n
may_low c q p g e m w n h = subst (λ (o : Origin). MayBe o p g e m w n) q h

each_at : (c : Origin) → c ≡ computed → (p : Program) (windows : ℕ → List ℕ) (u : ValueRecord) (P : ℕ → Type 0) → EachOf (pure_number c p.target (setting_of p windows) u) (bits p.target u) P →
    EachOf (op_value u.op u.int u.args p.target) (bits p.target u) P
each_at c q p windows u P h = subst (λ (o : Origin). EachOf (pure_number o p.target (setting_of p windows) u) (bits p.target u) P) q h

mutual
  made_at : (b : Build) (p : Program) (f g : FuncRecord) (e : Numbers) (windows : ℕ → List ℕ) (m : ℕ → ℕ) (bs : List Bound) (first : ℕ) → BuildsValues b → HasInts p.target (env_by f m bs) b →
      AreMay p g e m (values_made (From p f bs) b first) → (P : ℕ → Type 0) → ForMade p.target (setting_of p windows) (env_by f m bs) b P → P (m (name_made (From p f bs) b first))
  made_at (build.Var i) p f g e windows m bs first k x h P r = r
  made_at (build.Node' o u int a shape args) p f g e windows m bs first (c, ks) (x, xs) h P r =
      let E : Env = env_by f m bs in
      let S : Setting = setting_of p windows in
      let s : Source = From p f bs in
      let names : List ℕ = row_names s args first in
      let w : ValueRecord = node_made s (first + length (row_made s args first)) (result_type o) o u int a names in
      let q = mades_at args p f g e windows m bs first ks xs (λ y i. h y (in_left y (row_made s args first) (w ∷ []) i))
      (λ ns. WithInt p.target E int (λ k. EachNumber p.target S (value_at o (type_of E ty.Ptr u) k (aux_of o.family E a) ns) P)) r in
      let z = at_made_int f m bs p o int x (λ k. EachNumber p.target S (value_at o (type_of E ty.Ptr u) k (aux_of o.family E a) (map m names)) P) q in
      let l : HasLow (op_value o w.int (map m names) p.target) (bits p.target w) (m w.id) =
      may_low (origin_of o.family) c.origin p g e m w (m w.id) (h w (in_right w (row_made s args first) (w ∷ []) (inl refl))) in
      low_of (op_value o z.0 (map m names) p.target) (bits p.target (value_at o (type_of E ty.Ptr u) z.0 (aux_of o.family E a) (map m names))) (m w.id) P
      (each_at (origin_of o.family) c.origin p windows (value_at o (type_of E ty.Ptr u) z.0 (aux_of o.family E a) (map m names)) P z.1)
      (subst (λ o. HasLow o (bits p.target (value_at w.op (type_of E ty.Ptr u) z.0 (aux_of w.op.family E a) (map m names))) (m w.id)) (z.2 (map m names))
      (subst (λ y. HasLow (op_value w.op w.int (map m names) p.target) y (m w.id)) (sym (inner_width f m bs u p.target o c)) l))

  mades_at : {c : _} (rs : Row_of-Build c) (p : Program) (f g : FuncRecord) (e : Numbers) (windows : ℕ → List ℕ) (m : ℕ → ℕ) (bs : List Bound) (first : ℕ) → BuildEach rs → HaveInts p.target (env_by f m bs) rs →
      AreMay p g e m (row_made (From p f bs) rs first) → (P : List ℕ → Type 0) → ForAllMade p.target (setting_of p windows) (env_by f m bs) rs P → P (map m (row_names (From p f bs) rs first))
  mades_at end_of-Build p f g e windows m bs first k x h P r = r
  mades_at (more_of-Build b rs) p f g e windows m bs first (k, ks) (x, xs) h P r =
      let E : Env = env_by f m bs in
      let s : Source = From p f bs in
      let next : ℕ = first + length (values_made s b first) in
      mades_at rs p f g e windows m bs next ks xs (λ y i. h y (in_right y (values_made s b first) (row_made s rs next) i)) (λ ns. P (m (name_made s b first) ∷ ns))
      (made_at b p f g e windows m bs first k x (λ y i. h y (in_left y (values_made s b first) (row_made s rs next) i)) (λ n. ForAllMade p.target (setting_of p windows) E rs (λ ns. P (n ∷ ns))) r)

-- ---- the root
agree_low : (o u : Option ℕ) (w y n : ℕ) → AgreeIn o w u y → HasLow u y n → HasLow o w n
agree_low None u w y n a h = tt
agree_low (Some x) None w y n a h = elim a [ ]
agree_low (Some x) (Some z) w y n a h = a n h

value_low : (o : Option ℕ) (w n : ℕ) → IsValue o w n → HasLow o w n
value_low None w n h = elim h [ ]
value_low (Some x) w n h = h

-- the value has no memory, and comes from its op
number_computed : (c : Origin) → c ≡ computed → (p : Program) (windows : ℕ → List ℕ) (u : ValueRecord) → number_from c p.target (setting_of p windows) u ≡ op_value u.op u.int u.args p.target
number_computed c q p windows u = ap (λ (o : Origin). number_from o p.target (setting_of p windows) u) q

-- the root of a right tree may be what the value that it stands for may be
pub root_low : (r : Build) (p : Program) (f g : FuncRecord) (e : Numbers) (windows : ℕ → List ℕ) (m : ℕ → ℕ) (bs : List Bound) (id : ℕ) (l : ValueRecord) (first : ℕ) → BuildsValues r → HasInts p.target (env_by f m bs) r →
    origin_of l.op.family ≡ computed → AreMay p g e m (inner_made (From p f bs) r first) →
    MayBe (origin_of (root_made (From p f bs) id l.ty r first).op.family) p g e m (root_made (From p f bs) id l.ty r first) (m id) →
    MakesTheSame p.target (setting_of p windows) (env_by f m bs) r l → HasLow (op_value l.op l.int l.args p.target) (bits p.target l) (m id)
root_low (build.Var i) p f g e windows m bs id l first k x c h d t =
    subst (λ n. HasLow (op_value l.op l.int l.args p.target) (bits p.target l) n) (sym d)
    (value_low (op_value l.op l.int l.args p.target) (bits p.target l) (m (value_in (slice_get bs i)))
    (subst (λ o. IsValue o (bits p.target l) (m (value_in (slice_get bs i)))) (number_computed (origin_of l.op.family) c p windows l) t.0))
root_low (build.Node' o u int a shape args) p f g e windows m bs id l first (k, ks) (x, xs) c h d t =
    let E : Env = env_by f m bs in
    let S : Setting = setting_of p windows in
    let s : Source = From p f bs in
    let names : List ℕ = row_names s args first in
    let w : ValueRecord = node_made s id l.ty o u int a names in
    let q = mades_at args p f g e windows m bs first ks xs h
    (λ ns. WithInt p.target E int (λ k. DoTheSame p.target S l (value_at o (type_of E l.ty u) k (aux_of o.family E a) ns))) t in
    let z = at_made_int f m bs p o int x (λ k. DoTheSame p.target S l (value_at o (type_of E l.ty u) k (aux_of o.family E a) (map m names))) q in
    let v : ValueRecord = value_at o (type_of E l.ty u) z.0 (aux_of o.family E a) (map m names) in
    let low : HasLow (op_value o w.int (map m names) p.target) (bits p.target w) (m id) = may_low (origin_of o.family) k.origin p g e m w (m id) d in
    let now : HasLow (op_value o z.0 (map m names) p.target) (bits p.target v) (m id) =
    subst (λ y. HasLow y (bits p.target v) (m id)) (z.2 (map m names))
    (subst (λ y. HasLow (op_value o w.int (map m names) p.target) (width_by (row o.family o.a o.b).info.result y p.target) (m id)) (sym (same_type f m bs u l.ty)) low) in
    agree_low (op_value l.op l.int l.args p.target) (op_value o z.0 (map m names) p.target) (bits p.target l) (bits p.target v) (m id)
    (subst (λ y. AgreeIn (op_value l.op l.int l.args p.target) (bits p.target l) y (bits p.target v)) (number_computed (origin_of o.family) k.origin p windows v)
    (subst (λ y. AgreeIn y (bits p.target l) (number_from (origin_of o.family) p.target S v) (bits p.target v)) (number_computed (origin_of l.op.family) c p windows l) z.1.0))
    now
