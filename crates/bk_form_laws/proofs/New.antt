-- The values that a rule makes where it is applied: their ops, arguments, numbers and symbols.
use Rattle.std.proofs.Common.{◌≡◌, ℕ, suc, ◌+◌, refl, ap, sym, subst, arith, ◌⊎◌, inl, inr, List, [], ◌∷◌, ◌++◌, length, Some, None, Option, true, false, pos}
use Rattle.std.specs.Prelude.{slice_get}
use Rattle.std.proofs.lemmas.Int.{ints}
use Rattle.bk_ops.specs.Table.{info_of, is_op, row, entry}
use Rattle.bk_ops.specs.declared.table.Op.{Op}
use Rattle.bk_ops.specs.declared.table.AuxKind.{AuxKind}
use Rattle.bk_ops.specs.declared.table.AuxKind.TheVariants as kind
use Rattle.bk_ops.specs.declared.types.Ty.{Ty}
use Rattle.bk_ops.specs.declared.family.Family.{Family}
use Rattle.bk_ops.specs.declared.family.Family.TheVariants as op
use Rattle.bk_func.specs.Records.{ValueRecord, BlockRecord, FuncRecord}
use Rattle.bk_func.specs.Form.Signatures.{Setting}
use Rattle.bk_func.specs.Form.Parts.{FitsSymbol, symbol_of, Symbol, nothing, function, variable, argument, IsSigned, IsBetween, InRange, HasRange}
use Rattle.bk_func.proofs.Faults.{In}
use Rattle.bk_rule.specs.declared.trees.Bound.{Bound}
use Rattle.bk_rule.specs.declared.trees.TyPart.{TyPart}
use Rattle.bk_rule.specs.declared.trees.Expr.{Expr}
use Rattle.bk_rule.specs.declared.trees.Expr as expr
use Rattle.bk_rule.specs.declared.trees.Pattern.{Pattern}
use Rattle.bk_rule.specs.declared.trees.Build.{Build, Row_of-Build, end_of-Build, more_of-Build}
use Rattle.bk_rule.specs.declared.trees.Build as build
use Rattle.bk_rule.specs.Bindings.{value_in, int_in, bound_env}
use Rattle.bk_rule.specs.Expressions.{expr_value}
use Rattle.bk_func.specs.Edits.{value_of}
use Rattle.bk_func.specs.declared.parts.Aux.{Aux}
use Rattle.bk_func.specs.declared.parts.Aux.TheVariants as aux
use Rattle.bk_rewrite.specs.Making.{Source, int_as, int_made, aux_made, node_made, result_type, values_made, row_made, name_made, row_names, inner_made, root_made}
use Rattle.bk_form_laws.specs.Fits.{is_special}
use Rattle.bk_form_laws.specs.Kinds.{Typed}
use Rattle.bk_refine_laws.specs.Trees.{NamesBelow}
use Rattle.bk_form_laws.specs.Rules.{NamesSymbol, NamesInt, FitsInt, FitsName, IsMade, made_count, IsBuilt, AreBuilt}
use Rattle.bk_places.proofs.Elements.{in_left, in_right, in_either}
use Rattle.bk_form_laws.proofs.Matched.{Under}
use Rattle.bk_form_laws.proofs.Ranges.{zero_signed, const_kept, bool_kept, written_kept, written_fits}

-- the number is that of a value under the root, or of one that is made
abbrev pub IsTaken : FuncRecord → ℕ → List ValueRecord → ℕ → Type 0
IsTaken f id made n = Under f id n ⊎ ((u : ValueRecord) × In u made × (u.id ≡ n))

-- what a rule as it is read makes
pub record IsNode (s : Setting) (f : FuncRecord) (id : ℕ) (made : List ValueRecord) (w : ValueRecord) : Type 0 where
  pub is_one : is_op w.op.family w.op.a w.op.b ≡ true
  pub plain : is_special w.op.family ≡ false
  pub args : (n : ℕ) → In n w.args → IsTaken f id made n
  pub arity : (info_of w.op).arity ≡ Some (length w.args)
  pub range : (bs : List BlockRecord) → Typed s f → HasRange s (record f { blocks = bs }) w (info_of w.op).aux
  pub symbol : FitsSymbol s f (symbol_of w.op.family) w.aux
  pub store : ¬ (w.op.family ≡ op.Store)
  pub no_type : (x : Ty) → ¬ (w.aux ≡ aux.Ty x)

names_length : {m : _} (rs : Row_of-Build m) (s : Source) (n : ℕ) → length (row_names s rs n) ≡ made_count rs
names_length end_of-Build s n = refl
names_length (more_of-Build b rs) s n = ap suc (names_length rs s (n + length (values_made s b n)))

-- ---- numbers beside ops
-- the AuxInts that the left tree names have 64 bits
abbrev pub Numbered : Source → Pattern → Type 0
Numbered c l = (i : ℕ) → NamesInt i l → IsSigned 64 (int_in (slice_get c.binds i))

some_fits : (s : Setting) (g : FuncRecord) (w : ValueRecord) (c : Source) (l : Pattern) → Numbered c l → (o : Op) (int : Option Expr) (f : Family) → w.int ≡ int_made c (record o { family = f }) int → w.op.a ≡ o.a →
    is_op f o.a o.b ≡ true → is_special f ≡ false → FitsInt l kind.Int f int → InRange s g w f
unfolding InRange
some_fits s g w c l k o None op.Const e d i z h = subst (λ n. IsSigned w.op.a n) (sym e) (zero_signed w.op.a)
some_fits s g w c l k o (Some x) op.Const e d i z h =
    subst (λ n. IsSigned w.op.a n) (sym e) (subst (λ a. IsSigned a (int_as (record o { family = op.Const }) (expr_value c.target (bound_env c.func c.binds) x))) (sym d)
    (const_kept o.a o.b i (expr_value c.target (bound_env c.func c.binds) x)))
some_fits s g w c l k o None op.ConstBool e d i z h = subst (λ n. IsBetween n 0 2) (sym e) (omega (arith, ints), omega (arith, ints))
some_fits s g w c l k o (Some x) op.ConstBool e d i z h = subst (λ n. IsBetween n 0 2) (sym e) (bool_kept o.a o.b (expr_value c.target (bound_env c.func c.binds) x))
some_fits s g w c l k o None op.Trap e d i z h = elim h [ ]
some_fits s g w c l k o (Some (expr.Number n)) op.Trap e d i z h = subst (λ n. IsBetween n 1 7) (sym e) h
some_fits s g w c l k o (Some (expr.Var n)) op.Trap e d i z h = elim h [ ]
some_fits s g w c l k o (Some (expr.Call' n shape xs)) op.Trap e d i z h = elim h [ ]
some_fits s g w c l k o int op.SelectN e d i z h = absurd cc
some_fits s g w c l k o int op.ArgWord e d i z h = absurd cc
some_fits s g w c l k o int op.RetWord e d i z h = absurd cc
some_fits s g w c l k o int op.OutWord e d i z h = absurd cc
some_fits s g w c l k o int op.ResWord e d i z h = absurd cc
some_fits s g w c l k o int op.ArgReg e d i z h = absurd cc
some_fits s g w c l k o int op.ResReg e d i z h = absurd cc
some_fits s g w c l k o None _ e d i z h = subst (λ n. IsSigned 64 n) (sym e) (zero_signed 64)
some_fits s g w c l k o (Some x) f e d i z h =
    subst (λ n. IsSigned 64 n) (sym e) (written_kept (record o { family = f }) (λ q. absurd cc) (λ q. absurd cc) (expr_value c.target (bound_env c.func c.binds) x)
    (λ n q. written_fits x c.target (bound_env c.func c.binds) l k h n q))

range_of : (s : Setting) (g : FuncRecord) (w : ValueRecord) (c : Source) (l : Pattern) → Numbered c l → (int : Option Expr) → w.int ≡ int_made c w.op int → is_op w.op.family w.op.a w.op.b ≡ true → is_special w.op.family ≡ false →
    (k : AuxKind) → FitsInt l k w.op.family int → HasRange s g w k
range_of s g w c l n int e i z kind.Int h = some_fits s g w c l n w.op int w.op.family e refl i z h
range_of s g w c l n None e i z kind.None h = e
range_of s g w c l n None e i z kind.Name h = e
range_of s g w c l n None e i z kind.Ty h = e
range_of s g w c l n (Some x) e i z kind.None h = elim h [ ]
range_of s g w c l n (Some x) e i z kind.Name h = elim h [ ]
range_of s g w c l n (Some x) e i z kind.Ty h = elim h [ ]

-- ---- symbols
name_of : (s : Setting) (f : FuncRecord) (l : Pattern) (bs : List Bound) (y : Symbol) (a : Option ℕ) → ((i : ℕ) → NamesSymbol i l → FitsSymbol s f variable (aux_made bs (Some i))) → FitsName l y a →
    FitsSymbol s f y (aux_made bs a)
name_of s f l bs nothing None k h = tt
name_of s f l bs nothing (Some i) k h = elim h [ ]
name_of s f l bs function None k h = elim h [ ]
name_of s f l bs function (Some i) k h = elim h [ ]
name_of s f l bs variable None k h = elim h [ ]
name_of s f l bs variable (Some i) k h = k i h
name_of s f l bs argument None k h = elim h [ ]
name_of s f l bs argument (Some i) k h = elim h [ ]

named_no_type : (s : Setting) (f : FuncRecord) (l : Pattern) (bs : List Bound) (y : Symbol) (a : Option ℕ) → ((i : ℕ) → NamesSymbol i l → FitsSymbol s f variable (aux_made bs (Some i))) → FitsName l y a →
    (x : Ty) → ¬ (aux_made bs a ≡ aux.Ty x)
named_no_type s f l bs nothing None k h x e = cc
named_no_type s f l bs nothing (Some i) k h x e = elim h [ ]
named_no_type s f l bs function None k h x e = elim h [ ]
named_no_type s f l bs function (Some i) k h x e = elim h [ ]
named_no_type s f l bs variable None k h x e = elim h [ ]
named_no_type s f l bs variable (Some i) k h x e = (let P : Aux → Type 0 = λ z. FitsSymbol s f variable z in let r : FitsSymbol s f variable (aux.Ty x) = subst P e (k i h) in elim r [ ])
named_no_type s f l bs argument None k h x e = elim h [ ]
named_no_type s f l bs argument (Some i) k h x e = elim h [ ]

-- ---- one node
-- what is known of the left tree where it stands
pub record Known (s : Setting) (c : Source) (l : Pattern) (id : ℕ) : Type 0 where
  pub under : (i : ℕ) → NamesBelow i l → Under c.func id (value_in (slice_get c.binds i))
  pub symbol : (i : ℕ) → NamesSymbol i l → FitsSymbol s c.func variable (aux_made c.binds (Some i))
  pub number : Typed s c.func → Numbered c l

one_node : (s : Setting) (c : Source) (l : Pattern) (id : ℕ) (made : List ValueRecord) → Known s c l id → (n : ℕ) (other : Ty) (o : Op) (ty : Option TyPart) (int : Option Expr) (a : Option ℕ) (ids : List ℕ) →
    IsMade l o (length ids) int a → ((m : ℕ) → In m ids → IsTaken c.func id made m) → IsNode s c.func id made (node_made c n other o ty int a ids)
one_node s c l id made k n other o ty int a ids h t = record {
  is_one = h.is_one;
  plain = h.plain;
  args = t;
  arity = h.arity;
  range = λ bs q. range_of s (record c.func { blocks = bs }) (node_made c n other o ty int a ids) c l (k.number q) int refl h.is_one h.plain (info_of o).aux h.number;
  symbol = name_of s c.func l c.binds (symbol_of o.family) a k.symbol h.symbol;
  store = h.store;
  no_type = named_no_type s c.func l c.binds (symbol_of o.family) a k.symbol h.symbol;
}

counted : (l : Pattern) (o : Op) (m n : ℕ) (int : Option Expr) (a : Option ℕ) → m ≡ n → IsMade l o m int a → IsMade l o n int a
counted l o m n int a e h = subst (λ k. IsMade l o k int a) e h

abbrev All' : (ValueRecord → Type 0) → List ValueRecord → Type 0
All' P vs = (w : ValueRecord) → In w vs → P w

one_more : (w : ValueRecord) (vs : List ValueRecord) (P : ValueRecord → Type 0) → All' P vs → P w → All' P (vs ++ w ∷ [])
one_more w vs P h k u i = elim (in_either u vs (w ∷ []) i) as (λ _. P u) [
  | inl j ↦ h u j
  | inr j ↦ (elim j as (λ _. P u) [ inl e ↦ subst P e k | inr z ↦ elim z [ ] ])
]

both_all : (us vs : List ValueRecord) (P : ValueRecord → Type 0) → All' P us → All' P vs → All' P (us ++ vs)
both_all us vs P h k u i = elim (in_either u us vs i) as (λ _. P u) [
  | inl j ↦ h u j
  | inr j ↦ k u j
]

either_name : (n : ℕ) (ns : List ℕ) (P : ℕ → Type 0) → P n → ((m : ℕ) → In m ns → P m) → (m : ℕ) → In m (n ∷ ns) → P m
either_name n ns P h k m (inl e) = subst P e h
either_name n ns P h k m (inr i) = k m i

mutual
  tree : (b : Build) (s : Setting) (c : Source) (l : Pattern) (id : ℕ) (made : List ValueRecord) → Known s c l id → IsBuilt l b → (first : ℕ) → All' (λ w. In w made) (values_made c b first) →
      All' (IsNode s c.func id made) (values_made c b first) × IsTaken c.func id made (name_made c b first)
  tree (build.Var i) s c l id made k h first q = (λ w j. elim j [ ], inl (k.under i h))
  tree (build.Node' o ty int a shape args) s c l id made k (h, hs) first q =
      let w : ValueRecord = node_made c (first + length (row_made c args first)) (result_type o) o ty int a (row_names c args first) in
      let r = trees args s c l id made k hs first (λ u j. q u (in_left u (row_made c args first) (w ∷ []) j)) in
      let n : IsNode s c.func id made w = one_node s c l id made k (first + length (row_made c args first)) (result_type o) o ty int a (row_names c args first)
      (counted l o (made_count args) (length (row_names c args first)) int a (sym (names_length args c first)) h) r.1 in
      (one_more w (row_made c args first) (IsNode s c.func id made) r.0 n, inr (w, q w (in_right w (row_made c args first) (w ∷ []) (inl refl)), refl))

  trees : {m : _} (rs : Row_of-Build m) (s : Setting) (c : Source) (l : Pattern) (id : ℕ) (made : List ValueRecord) → Known s c l id → AreBuilt l rs → (first : ℕ) → All' (λ w. In w made) (row_made c rs first) →
      All' (IsNode s c.func id made) (row_made c rs first) × ((n : ℕ) → In n (row_names c rs first) → IsTaken c.func id made n)
  trees end_of-Build s c l id made k h first q = (λ w j. elim j [ ], λ n j. elim j [ ])
  trees (more_of-Build b rs) s c l id made k (h, hs) first q =
      let next : ℕ = first + length (values_made c b first) in
      let t = tree b s c l id made k h first (λ u j. q u (in_left u (values_made c b first) (row_made c rs next) j)) in
      let r = trees rs s c l id made k hs next (λ u j. q u (in_right u (values_made c b first) (row_made c rs next) j)) in
      (both_all (values_made c b first) (row_made c rs next) (IsNode s c.func id made) t.0 r.0, either_name (name_made c b first) (row_names c rs next) (IsTaken c.func id made) t.1 r.1)

-- ---- the whole right tree
is_copy : (s : Setting) (f : FuncRecord) (id : ℕ) (made : List ValueRecord) (n : ℕ) (ty : Ty) (m : ℕ) → IsTaken f id made m → IsNode s f id made (value_of n (record { family = op.Copy; a = 0; b = 0 }) ty (m ∷ []) (pos 0) aux.Nothing)
unfolding info_of is_op row entry symbol_of
is_copy s f id made n ty m h = record {
  is_one = refl;
  plain = refl;
  args = λ k i. elim i as (λ _. IsTaken f id made k) [ inl e ↦ subst (IsTaken f id made) e h | inr j ↦ elim j [ ] ];
  arity = refl;
  range = λ bs q. refl;
  symbol = tt;
  store = λ e. cc;
  no_type = λ x e. cc;
}

-- what is made below the root, and the root
pub all_nodes : (r : Build) (s : Setting) (c : Source) (l : Pattern) (id : ℕ) (ty : Ty) (first : ℕ) → Known s c l id → IsBuilt l r →
    ((w : ValueRecord) → In w (inner_made c r first) → IsNode s c.func id (inner_made c r first) w) × IsNode s c.func id (inner_made c r first) (root_made c id ty r first)
all_nodes (build.Var i) s c l id ty first k h = (λ w j. elim j [ ], is_copy s c.func id [] id ty (value_in (slice_get c.binds i)) (inl (k.under i h)))
all_nodes (build.Node' o u x a shape args) s c l id ty first k (h, hs) =
    let r = trees args s c l id (row_made c args first) k hs first (λ w j. j) in (
      r.0,
      one_node s c l id (row_made c args first) k id ty o u x a (row_names c args first) (counted l o (made_count args) (length (row_names c args first)) x a (sym (names_length args c first)) h) r.1,
    )
