-- In a function in form a value whose type is a list of types stands for the results of a function, and there are some.
use Rattle.std.proofs.Common.{◌≡◌, ℕ, ℤ, pos, negsuc, ◌+◌, ◌<◌, ◌≤◌, List, [], ◌∷◌, length, ap, ◌∙◌, sym, refl, subst, arith, Bool, true, false, cond, Some, None, ◌⊎◌, inl, inr, ⊎_elim, get_or}
use Rattle.std.specs.Prelude.{◌==◌, ◌&&◌, ◌||◌}
use Rattle.std.specs.List.{AllByRecursion, Contains, find}
use Rattle.std.proofs.lemmas.Bool.{cases_lt}
use Rattle.std.proofs.lemmas.Option.{same_Some, slice_get-get_or}
use Rattle.std.proofs.lemmas.Int.{ints}
use Rattle.bk_ops.specs.Table.{entry, row, is_op, is_width, info_of, unknown}
use Rattle.bk_ops.specs.Types.{width_of, word_width}
use Rattle.bk_ops.specs.declared.family.Family.{Family}
use Rattle.bk_ops.specs.declared.family.Family.TheVariants as op
use Rattle.bk_ops.specs.declared.table.AuxKind.{AuxKind}
use Rattle.bk_ops.specs.declared.table.AuxKind.TheVariants as kind
use Rattle.bk_ops.specs.declared.table.Class.{Class}
use Rattle.bk_ops.specs.declared.table.Class.TheVariants.{Number, Word, Bool as Truth, Mem as State, Void as Nothing, Tuple as Results, ByType}
use Rattle.bk_ops.specs.declared.table.Op.{Op}
use Rattle.bk_ops.specs.declared.table.OpInfo.{OpInfo}
use Rattle.bk_ops.specs.declared.types.Target.{Target}
use Rattle.bk_ops.specs.declared.types.Target.TheVariants.{Arm, Riscv64}
use Rattle.bk_ops.specs.declared.types.Ty.{Ty}
use Rattle.bk_ops.specs.declared.types.Ty.TheVariants.{Bool as Boolean, Mem, Void, Tuple}
use Rattle.bk_func.specs.declared.form.FormKind.TheVariants.{Missing, Ty as Types, Width}
use Rattle.bk_func.specs.declared.parts.Aux.{Aux}
use Rattle.bk_func.specs.declared.parts.Aux.TheVariants as beside
use Rattle.bk_func.specs.Records.{ValueRecord, BlockRecord, SigRecord, FuncRecord, PackageRecord}
use Rattle.bk_func.specs.Form.{IsInForm, strict}
use Rattle.bk_func.specs.Form.Parts.{NamesInValue, IsBetween, InRange, HasRange}
use Rattle.bk_func.specs.Form.Shapes.{HasTypes, Gives, GivesArgument, GivesResult, GivesByType, GivesWord, GivesResults, GivesList, IsData, FitsWord}
use Rattle.bk_func.specs.Form.Signatures.{Setting, sig_in, sig_of, ResultOf}
use Rattle.bk_func.specs.Symbols.{no_sig}
use Rattle.bk_form.proofs.Named.{callee_from}
use Rattle.bk_dump_laws.specs.Lines.{IsWordType}
use Rattle.bk_dump.specs.Values.{square_of, is_written}
use Rattle.bk_dump.specs.Print.{function_of, results_in, tuple_types}
use Rattle.bk_dump_laws.specs.Printed.{HasTypes as ListsTypes}
use Rattle.bk_dump_laws.proofs.OpRows.{is_int, has_int, int_is_written}

-- What form says of a value.

pub record Formed (s : Setting) (f : FuncRecord) (v : ValueRecord) : Type 0 where
  pub names : NamesInValue s f v
  pub types : HasTypes s f v
  pub range : HasRange s f v (info_of v.op).aux

pub formed : (p : PackageRecord) (f : FuncRecord) (t : Target) (b : BlockRecord) (v : ValueRecord) → IsInForm p f t → Contains f.blocks b → Contains b.values v → Formed (strict p t) f v
formed p f t b v h c d = record { names = (h.kinds Missing b c).value v d; types = (h.kinds Types b c).value v d; range = (h.kinds Width b c).value v d }

-- Ops of numbers have a width.

narrow : (a b : ℕ) (z : Bool) (n : ℕ) → (is_width a && z) ≡ true → Number a ≡ Number n → n ≡ 0 → ⊥
narrow a b z n k h e =
    let q : a ≡ n = cc in
    let f : (is_width 0 && z) ≡ true = subst (λ x. (is_width x && z) ≡ true) (q ∙ e) k in
    absurd (cc)

long : (a b n : ℕ) → ((a == 32 || a == 64) && b == 0) ≡ true → Number a ≡ Number n → n ≡ 0 → ⊥
long a b n k h e =
    let q : a ≡ n = cc in
    let f : ((0 == 32 || 0 == 64) && b == 0) ≡ true = subst (λ x. ((x == 32 || x == 64) && b == 0) ≡ true) (q ∙ e) k in
    absurd (cc)

middle : (x y z : Bool) → (x && y && z) ≡ true → y ≡ true
middle true true z h = refl
middle true false z h = absurd (cc)
middle false y z h = absurd (cc)

second : (a b : ℕ) (z : Bool) (n : ℕ) → (is_width a && is_width b && z) ≡ true → Number b ≡ Number n → n ≡ 0 → ⊥
second a b z n k h e =
    let q : b ≡ n = cc in
    let f : is_width 0 ≡ true = subst (λ x. is_width x ≡ true) (q ∙ e) (middle (is_width a) (is_width b) z k) in
    absurd (cc)

fixed : (m n : ℕ) → 0 < m → Number m ≡ Number n → n ≡ 0 → ⊥
fixed m n l h e = let q : m ≡ n = cc in absurd (omega (arith, q, e))

numbered : (o : Family) (a b n : ℕ) → is_written o ≡ true → is_op o a b ≡ true → (row o a b).info.result ≡ Number n → n ≡ 0 → ⊥
unfolding row entry is_op is_written
numbered op.Const a b n w k h e = narrow a b _ n k h e
numbered op.Add a b n w k h e = narrow a b _ n k h e
numbered op.Sub a b n w k h e = narrow a b _ n k h e
numbered op.Mul a b n w k h e = narrow a b _ n k h e
numbered op.And a b n w k h e = narrow a b _ n k h e
numbered op.Or a b n w k h e = narrow a b _ n k h e
numbered op.Xor a b n w k h e = narrow a b _ n k h e
numbered op.Neg a b n w k h e = narrow a b _ n k h e
numbered op.Com a b n w k h e = narrow a b _ n k h e
numbered op.Div a b n w k h e = narrow a b _ n k h e
numbered op.Divu a b n w k h e = narrow a b _ n k h e
numbered op.Mod a b n w k h e = narrow a b _ n k h e
numbered op.Modu a b n w k h e = narrow a b _ n k h e
numbered op.Hmul a b n w k h e = long a b n k h e
numbered op.Hmulu a b n w k h e = long a b n k h e
numbered op.Lsh a b n w k h e = narrow a b _ n k h e
numbered op.Rsh a b n w k h e = narrow a b _ n k h e
numbered op.RshU a b n w k h e = narrow a b _ n k h e
numbered op.RotateLeft a b n w k h e = long a b n k h e
numbered op.SignExt a b n w k h e = second a b _ n k h e
numbered op.ZeroExt a b n w k h e = second a b _ n k h e
numbered op.Trunc a b n w k h e = second a b _ n k h e
numbered op.CvtBoolToUint8 a b n w k h e = fixed 8 n (omega arith) h e
numbered op.Signmask a b n w k h e = fixed 32 n (omega arith) h e
numbered op.Zeromask a b n w k h e = fixed 32 n (omega arith) h e
numbered op.Ctz32 a b n w k h e = fixed 32 n (omega arith) h e
numbered op.BitLen32 a b n w k h e = fixed 32 n (omega arith) h e
numbered op.Int64Make a b n w k h e = fixed 64 n (omega arith) h e
numbered op.Int64Hi a b n w k h e = fixed 32 n (omega arith) h e
numbered op.Int64Lo a b n w k h e = fixed 32 n (omega arith) h e
numbered op.AddHi32 a b n w k h e = fixed 32 n (omega arith) h e
numbered op.SubHi32 a b n w k h e = fixed 32 n (omega arith) h e
numbered (op.Arm m) a b n w k h e = absurd cc
numbered (op.Rv m) a b n w k h e = absurd cc
numbered _ a b n w k h e = absurd cc

-- A list of types has no bits.

a_word : (t : Target) → word_width t ≡ 0 → ⊥
a_word Arm e = absurd (omega (arith, e))
a_word Riscv64 e = absurd (omega (arith, e))

no_data : (s : Setting) (x : Ty) → x ≡ Tuple → IsData s x → ⊥
no_data s x e d = d (ap (λ (y : Ty). width_of y s.target) e)

no_word : (p : PackageRecord) (t : Target) (x : Ty) → x ≡ Tuple → FitsWord (strict p t) x → ⊥
no_word p t x e d = a_word t (sym d ∙ ap (λ (y : Ty). width_of y t) e)

no_memory : (x : Ty) → x ≡ Tuple → x ≡ Mem → ⊥
no_memory x e m = let q : Tuple ≡ Mem = sym e ∙ m in absurd cc

alike : (t : Target) (x y : Ty) → y ≡ Tuple → (width_of x t ≡ 0 → ⊥) → width_of y t ≡ width_of x t → ⊥
alike t x y e d w = d (sym w ∙ ap (λ (z : Ty). width_of z t) e)

word_no_list : (p : PackageRecord) (t : Target) (f : FuncRecord) (v : ValueRecord) (o : Family) → v.ty ≡ Tuple → is_written o ≡ true → GivesWord (strict p t) f v o → ⊥
unfolding GivesWord is_written
word_no_list p t f v op.ArgWord e w h = absurd cc
word_no_list p t f v op.ArgReg e w h = absurd cc
word_no_list p t f v op.ResWord e w h = absurd cc
word_no_list p t f v op.ResReg e w h = absurd cc
word_no_list p t f v _ e w h = no_word p t v.ty e h

arg_no_list : (p : PackageRecord) (t : Target) (ts : List Ty) (x : Aux) (y : Ty) → y ≡ Tuple → GivesArgument (strict p t) ts x y → ⊥
arg_no_list p t ts (beside.Arg k) y e (z, at, (d, w)) = alike t z y e d w
arg_no_list p t ts beside.Nothing y e h = absurd h
arg_no_list p t ts (beside.Sym n) y e h = absurd h
arg_no_list p t ts (beside.Ty z) y e h = absurd h

-- a result of a call is memory or one of the results
result_no_list : (p : PackageRecord) (t : Target) (ts : List Ty) (z : ℤ) (y : Ty) → y ≡ Tuple → IsBetween z 0 (length ts + 1) → GivesResult (strict p t) ts z y → ⊥
result_no_list p t ts (negsuc n) y e b h = absurd (omega (arith, ints, b.0))
result_no_list p t ts (pos k) y e b h = ⊎_elim (λ l. inner l) (λ m. last m) (cases_lt k (length ts))
  where
    inner : k < length ts → ⊥
    inner l = let a = h.1 k (get_or ts k Tuple) refl (slice_get-get_or ts k Tuple l) in alike t (get_or ts k Tuple) y e a.0 a.1

    last : length ts ≤ k → ⊥
    last m = no_memory y e (h.0 (ap pos (let f : k < length ts + 1 = omega (arith, ints, b.1) in omega arith)))

range_is : (s : Setting) (f : FuncRecord) (v : ValueRecord) (x : AuxKind) → is_int x ≡ true → HasRange s f v x → InRange s f v v.op.family
range_is s f v kind.Int e h = h
range_is s f v kind.None e h = absurd cc
range_is s f v kind.Name e h = absurd cc
range_is s f v kind.Ty e h = absurd cc

selected : (s : Setting) (f : FuncRecord) (v : ValueRecord) → v.op.family ≡ op.SelectN → InRange s f v v.op.family → (g : SigRecord) × ResultOf s.pkg f v g × IsBetween v.int 0 (length (s.places g.results) + 1)
unfolding InRange
selected s f v e h = (let P : Family → Type 0 = λ o. InRange s f v o in subst P e h)

counted : (o : Op) → o.family ≡ op.SelectN → is_op o.family o.a o.b ≡ true → is_int (info_of o).aux ≡ true
unfolding is_written square_of
counted o e k =
    let w : is_written o.family ≡ true = ap is_written e in
    int_is_written o k w ∙ ap (λ f. has_int (square_of f)) e

select_no_list : (p : PackageRecord) (t : Target) (f : FuncRecord) (v : ValueRecord) → Formed (strict p t) f v → v.op.family ≡ op.SelectN → v.ty ≡ Tuple → (g : SigRecord) → ResultOf p f v g → GivesResult (strict p t) g.results v.int v.ty → ⊥
select_no_list p t f v m q e g r h =
    let k = selected (strict p t) f v q (range_is (strict p t) f v (info_of v.op).aux (counted v.op q m.types.op) m.range) in
    let same : g ≡ k.0 = same_Some g k.0 (sym (callee_from p f v g m.names.args r) ∙ callee_from p f v k.0 m.names.args k.1) in
    result_no_list p t k.0.results v.int v.ty e k.2 (subst (λ (x : SigRecord). GivesResult (strict p t) x.results v.int v.ty) same h)

memory_or_data : (s : Setting) (x : Ty) → x ≡ Tuple → (x ≡ Mem) ⊎ IsData s x → ⊥
memory_or_data s x e (inl m) = no_memory x e m
memory_or_data s x e (inr d) = no_data s x e d

type_no_list : (p : PackageRecord) (t : Target) (f : FuncRecord) (v : ValueRecord) (o : Family) → v.op.family ≡ o → Formed (strict p t) f v → v.ty ≡ Tuple → GivesByType (strict p t) f v o → ⊥
unfolding GivesByType
type_no_list p t f v op.Phi q m e h = memory_or_data (strict p t) v.ty e h
type_no_list p t f v op.Copy q m e h = memory_or_data (strict p t) v.ty e h
type_no_list p t f v op.Arg q m e h = arg_no_list p t f.sig.args v.aux v.ty e h
type_no_list p t f v op.SelectN q m e (g, r, h) = select_no_list p t f v m q e g r h
type_no_list p t f v _ q m e h = no_data (strict p t) v.ty e h

info_is : (o : Op) → is_op o.family o.a o.b ≡ true → info_of o ≡ (row o.family o.a o.b).info
unfolding info_of
info_is o k = ap (λ b. cond b (row o.family o.a o.b).info unknown) k

void_or_word : (p : PackageRecord) (t : Target) (x : Ty) → x ≡ Tuple → (x ≡ Void) ⊎ FitsWord (strict p t) x → ⊥
void_or_word p t x e (inl v) = let q : Tuple ≡ Void = sym e ∙ v in absurd cc
void_or_word p t x e (inr w) = no_word p t x e w

gives_list : (p : PackageRecord) (t : Target) (f : FuncRecord) (v : ValueRecord) (c : Class) → Formed (strict p t) f v → is_written v.op.family ≡ true → v.ty ≡ Tuple → (info_of v.op).result ≡ c → Gives (strict p t) f v c → GivesResults (strict p t) f v v.op.family
gives_list p t f v (Number n) m w e q h =
    absurd (numbered v.op.family v.op.a v.op.b n w m.types.op (sym (ap (λ (x : OpInfo). x.result) (info_is v.op m.types.op)) ∙ q) (sym h ∙ ap (λ (y : Ty). width_of y t) e))
gives_list p t f v Word m w e q h = absurd (word_no_list p t f v v.op.family e w h)
gives_list p t f v Truth m w e q h = absurd (let k : Tuple ≡ Boolean = sym e ∙ h in cc)
gives_list p t f v State m w e q h = absurd (no_memory v.ty e h)
gives_list p t f v Nothing m w e q h = absurd (void_or_word p t v.ty e h)
gives_list p t f v Results m w e q h = h
gives_list p t f v ByType m w e q h = absurd (type_no_list p t f v v.op.family refl m e h)

-- The results of which function.

abbrev pub AreWords : List Ty → Type 0
AreWords ts = AllByRecursion IsWordType ts

abbrev pub WordResults : FuncRecord → Type 0
WordResults f = AreWords f.sig.results

some_of : (ts : List Ty) → ¬ (ts ≡ []) → 0 < length ts
some_of [] h = absurd (h refl)
some_of (t ∷ ts) h = omega arith

list_of : (g : SigRecord) (x : Ty) → x ≡ Tuple → GivesList (Some g) x → 0 < length g.results
list_of g x e (inl h) = absurd (no_memory x e h.1)
list_of g x e (inr h) = some_of g.results h.0

found_case : (p : FuncRecord → Bool) (f : FuncRecord) (fs : List FuncRecord) (b : Bool) → AllByRecursion WordResults (f ∷ fs) → (x : Ty) → x ≡ Tuple → GivesList (sig_in (cond b (Some f) (find p fs))) x
    → (GivesList (sig_in (find p fs)) x → (0 < length (results_in (find p fs))) × AreWords (results_in (find p fs)))
    → (0 < length (results_in (cond b (Some f) (find p fs)))) × AreWords (results_in (cond b (Some f) (find p fs)))
found_case p f fs true h x e g k = (list_of f.sig x e g, h.0)
found_case p f fs false h x e g k = k g

found_words : (p : FuncRecord → Bool) (fs : List FuncRecord) → AllByRecursion WordResults fs → (x : Ty) → x ≡ Tuple → GivesList (sig_in (find p fs)) x → (0 < length (results_in (find p fs))) × AreWords (results_in (find p fs))
found_words p [] h x e g = absurd g
found_words p (f ∷ fs) h x e g = found_case p f fs (p f) h x e g (λ k. found_words p fs h.1 x e k)

reserved : (p : PackageRecord) (n : ℕ) (b c : Bool) → AllByRecursion WordResults p.funcs → (x : Ty) → x ≡ Tuple → GivesList (cond b (Some no_sig) (cond c (sig_in (find (λ g. g.name == n) p.funcs)) None)) x
    → (0 < length (results_in (function_of p n))) × AreWords (results_in (function_of p n))
reserved p n true c h x e g = absurd (omega (arith, list_of no_sig x e g))
reserved p n false true h x e g = found_words (λ g. g.name == n) p.funcs h x e g
reserved p n false false h x e g = absurd g

called : (p : PackageRecord) (s : SigRecord) (a : Aux) → AllByRecursion WordResults p.funcs → (x : Ty) → x ≡ Tuple → GivesList (sig_of p a) x → (0 < length (tuple_types p s a)) × AreWords (tuple_types p s a)
unfolding tuple_types
called p s (beside.Sym n) h x e g = reserved p n _ _ h x e g
called p s beside.Nothing h x e g = absurd g
called p s (beside.Ty t) h x e g = absurd g
called p s (beside.Arg k) h x e g = absurd g

own : (p : PackageRecord) (s : SigRecord) (a : Aux) → a ≡ beside.Nothing → 0 < length s.results → AreWords s.results → (0 < length (tuple_types p s a)) × AreWords (tuple_types p s a)
unfolding tuple_types
own p s a e l w = subst (λ a. (0 < length (tuple_types p s a)) × AreWords (tuple_types p s a)) (sym e) (l, w)

listed : (p : PackageRecord) (t : Target) (f : FuncRecord) (v : ValueRecord) (o : Family) → v.ty ≡ Tuple → (o ≡ op.MakeResult → v.aux ≡ beside.Nothing) → AllByRecursion WordResults p.funcs → WordResults f → GivesResults (strict p t) f v o
    → (0 < length (tuple_types p f.sig v.aux)) × AreWords (tuple_types p f.sig v.aux)
unfolding GivesResults
listed p t f v op.MakeResult e a h w g = own p f.sig v.aux (a refl) (list_of f.sig v.ty e g) w
listed p t f v _ e a h w g = called p f.sig v.aux h v.ty e g

pub types_listed : (p : PackageRecord) (t : Target) (f : FuncRecord) (v : ValueRecord) → Formed (strict p t) f v → is_written v.op.family ≡ true → (v.op.family ≡ op.MakeResult → v.aux ≡ beside.Nothing) → AllByRecursion WordResults p.funcs → WordResults f
    → ListsTypes (tuple_types p f.sig v.aux) v.ty
types_listed p t f v m w a h r e = listed p t f v v.op.family e a h r (gives_list p t f v (info_of v.op).result m w e refl m.types.result)
