-- The numbers that the expressions of a rule give, and those that a left tree names, have 64 bits.
use Rattle.std.proofs.Common.{◌≡◌, ℕ, zero, suc, ◌≤◌, ◌<◌, ◌^◌, ◌-◌, ◌/◌, nat_le, refl, ap, sym, subst, ◌∙◌, arith, ◌⊎◌, inl, inr, List, [], ◌∷◌, Some, None, Option, Bool, true, false, drop, ℤ, pos, negsuc, pow_mono}
use Rattle.std.specs.Prelude.{slice_get, if◌then◌else◌, ◌&&◌, ◌==◌, IsTrue, MatchBool}
use Rattle.std.specs.Int.{int_div_euclid}
use Rattle.std.proofs.lemmas.Bool.Decides.{nat_tests}
use Rattle.std.proofs.lemmas.Nat.{pow_pos}
use Rattle.std.proofs.lemmas.Int.{ints}
use Rattle.bk_num.specs.Word.{signed, residue, fits_signed}
use Rattle.bk_num.proofs.Signs.{residue_below, signed_fits}
use Rattle.bk_ops.specs.Table.{info_of, is_op, is_width, row, entry}
use Rattle.bk_ops.specs.Types.{size_of_ty}
use Rattle.bk_ops.specs.declared.types.Target.{Target}
use Rattle.bk_ops.specs.declared.types.Target.TheVariants.{Arm, Riscv64}
use Rattle.bk_ops.specs.declared.types.Ty.{Ty}
use Rattle.bk_ops.specs.declared.types.Ty.TheVariants as ty
use Rattle.bk_ops.specs.declared.table.Op.{Op}
use Rattle.bk_ops.specs.declared.table.AuxKind.{AuxKind}
use Rattle.bk_ops.specs.declared.table.AuxKind.TheVariants as kind
use Rattle.bk_ops.specs.declared.family.Family.{Family}
use Rattle.bk_ops.specs.declared.family.Family.TheVariants as op
use Rattle.bk_func.specs.Records.{ValueRecord, FuncRecord}
use Rattle.bk_func.specs.Form.Signatures.{Setting}
use Rattle.bk_func.specs.Form.Parts.{IsSigned, IsBetween, InRange, HasRange}
use Rattle.bk_rule.specs.declared.trees.Bound.{Bound}
use Rattle.bk_rule.specs.declared.trees.IntPart.{IntPart}
use Rattle.bk_rule.specs.declared.trees.IntPart.TheVariants as part
use Rattle.bk_rule.specs.declared.trees.Fun.{Fun}
use Rattle.bk_rule.specs.declared.trees.Fun.TheVariants.{Neg, Com, Mul, Shl, Shr, And, Add, Sub, Or, Xor, Eq, Ne, Lt, Le, IsPowerOfTwo, Log2, Ult, Ule, Zext8, Zext16, Zext32, Is12, ArmImm, Size, IsBool, Uses}
use Rattle.bk_rule.specs.declared.trees.Expr.{Expr, Row_of-Expr, end_of-Expr, more_of-Expr}
use Rattle.bk_rule.specs.declared.trees.Expr as expr
use Rattle.bk_rule.specs.declared.trees.Pattern.{Pattern, Row_of-Pattern, end_of-Pattern, more_of-Pattern}
use Rattle.bk_rule.specs.declared.trees.Pattern as pattern
use Rattle.bk_rule.specs.Bindings.{int_in}
use Rattle.bk_rule.specs.Expressions.{Env, Operand, truth, log2_below, log2_of, unary, binary, of_variable, asks, at_variable, on_one, on_two, applied, expr_value, operands, down_by}
use Rattle.bk_rule.specs.Match.{IntMatches, Matches, MatchesEach, ordered, order_of, orders}
use Rattle.bk_rewrite.specs.Making.{kept_as, int_as}
use Rattle.bk_mean.proofs.Named.{value_found}
use Rattle.bk_form_laws.specs.Fits.{is_special}
use Rattle.bk_form_laws.specs.Kinds.{Typed}
use Rattle.bk_form_laws.specs.Rules.{IsPlain, ArePlain, NamesInt, NamesIntAmong, IsWritten, AreWritten}

-- ---- numbers beside ops
fits_over : (w : ℕ) (z : ℤ) → IsTrue (fits_signed w z) → IsSigned w z
fits_over w (pos n) h = (let l : n < 2 ^ (w - 1) = grind (arith, nat_tests, h) in (omega (arith, ints), omega (arith, ints)))
fits_over w (negsuc n) h = (let l : n < 2 ^ (w - 1) = grind (arith, nat_tests, h) in (omega (arith, ints), omega (arith, ints)))

signed_of : (w n : ℕ) → 1 ≤ w → IsSigned w (signed w n)
signed_of w n l = fits_over w (signed w n) (signed_fits w n l)

pub zero_signed : (w : ℕ) → IsSigned w (pos 0)
zero_signed w = (let p : 0 < 2 ^ (w - 1) = pow_pos (w - 1) in (omega (arith, ints), omega (arith, ints)))

widths : (a b : ℕ) → (is_width a && (b == 0)) ≡ true → (1 ≤ a) × (a ≤ 64)
widths a b e = (grind (arith, nat_tests, e), grind (arith, nat_tests, e))

const_width : (a b : ℕ) → is_op op.Const a b ≡ true → (1 ≤ a) × (a ≤ 64)
unfolding is_op row entry
const_width a b e = widths a b e

both_tests : (a : ℕ) → 1 ≤ a → a ≤ 64 → (nat_le 1 a && nat_le a 64) ≡ true
both_tests a l m = grind (arith, nat_tests)

pub const_kept : (a b : ℕ) → is_op op.Const a b ≡ true → (o : Option ℤ) → IsSigned a (int_as (record { family = op.Const; a = a; b = b }) o)
const_kept a b e None = zero_signed a
const_kept a b e (Some k) =
    let q = const_width a b e in
    subst (λ t. IsSigned a (if t then signed a (residue a k) else k)) (sym (both_tests a q.0 q.1)) (signed_of a (residue a k) q.0)

pub bool_kept : (a b : ℕ) (o : Option ℤ) → IsBetween (int_as (record { family = op.ConstBool; a = a; b = b }) o) 0 2
bool_kept a b None = (omega (arith, ints), omega (arith, ints))
bool_kept a b (Some k) = (let l : residue 1 k < 2 ^ 1 = residue_below 1 k in (omega (arith, ints), omega (arith, ints)))

kept_same : (f : Family) (a : ℕ) (k : ℤ) → ¬ (f ≡ op.Const) → ¬ (f ≡ op.ConstBool) → kept_as f a k ≡ k
kept_same op.Const a k c b = absurd (c refl)
kept_same op.ConstBool a k c b = absurd (b refl)
kept_same _ a k c b = refl

-- what an op other than a constant keeps of a number
pub written_kept : (o : Op) → ¬ (o.family ≡ op.Const) → ¬ (o.family ≡ op.ConstBool) → (x : Option ℤ) → ((n : ℤ) → x ≡ Some n → IsSigned 64 n) → IsSigned 64 (int_as o x)
written_kept o c b None h = zero_signed 64
written_kept o c b (Some k) h = subst (IsSigned 64) (sym (kept_same o.family o.a k c b)) (h k refl)

-- ---- expressions
small : (n : ℕ) → n < 2 ^ 63 → IsSigned 64 (pos n)
small n l = (omega (arith, ints), omega (arith, ints, l))

wrapped : (n : ℕ) → IsSigned 64 (signed 64 n)
wrapped n = signed_of 64 n (omega arith)

is_truth : (t : Bool) → IsSigned 64 (truth t)
is_truth true = small 1 (omega arith)
is_truth false = small 0 (omega arith)

the_same : (n z : ℤ) → Some n ≡ Some z → IsSigned 64 n → IsSigned 64 z
the_same n z e h = (let d : n ≡ z = cc in subst (IsSigned 64) d h)

low_residue : (w : ℕ) (z : ℤ) → w ≤ 32 → IsSigned 64 (pos (residue w z))
low_residue w z l = (let b : residue w z < 2 ^ w = residue_below w z in let p : 2 ^ w ≤ 2 ^ 32 = pow_mono {i = w} {j = 32} l in small (residue w z) (omega (arith, b, p)))

exponent : (k n : ℕ) (z : ℤ) → k ≤ 63 → log2_below k n ≡ Some z → IsSigned 64 z
exponent zero n z l e = absurd (let q : None ≡ Some z = e in cc)
exponent (suc k) n z l e = go (n == 2 ^ k) (λ q. exponent k n z (omega (arith, l)) q) e
  where
    go : (t : Bool) → (log2_below k n ≡ Some z → IsSigned 64 z) → (if t then Some (pos k) else log2_below k n) ≡ Some z → IsSigned 64 z
    go true r e = the_same (pos k) z e (small k (omega (arith, l)))
    go false r e = r e

logarithm : (x z : ℤ) → log2_of x ≡ Some z → IsSigned 64 z
unfolding log2_of
logarithm (pos n) z e = exponent 63 n z (omega arith) e
logarithm (negsuc n) z e = absurd (let q : None ≡ Some z = e in cc)

quotient_below : (a b : ℕ) → a / b ≤ a
quotient_below a b = omega arith

quotient : (x : ℤ) (m : ℕ) → IsSigned 64 x → IsSigned 64 (int_div_euclid x (pos m))
quotient (pos a) m h = (let l = quotient_below a m in (omega (arith, ints), omega (arith, ints, l, h.1)))
quotient (negsuc a) m h = (let l = quotient_below a m in (omega (arith, ints, l, h.0), omega (arith, ints)))

none_fits : (z : ℤ) → None ≡ Some z → IsSigned 64 z
none_fits z e = absurd cc

unary_fits : (f : Fun) (x z : ℤ) → unary f x ≡ Some z → IsSigned 64 z
unary_fits Neg x z e = the_same (signed 64 (2 ^ 64 - residue 64 x)) z e (wrapped (2 ^ 64 - residue 64 x))
unary_fits Com x z e = the_same (signed 64 (2 ^ 64 - 1 - residue 64 x)) z e (wrapped (2 ^ 64 - 1 - residue 64 x))
unary_fits IsPowerOfTwo x z e = the_same (truth _) z e (is_truth _)
unary_fits Log2 x z e = logarithm x z e
unary_fits Zext8 x z e = the_same (pos (residue 8 x)) z e (low_residue 8 x (omega arith))
unary_fits Zext16 x z e = the_same (pos (residue 16 x)) z e (low_residue 16 x (omega arith))
unary_fits Zext32 x z e = the_same (pos (residue 32 x)) z e (low_residue 32 x (omega arith))
unary_fits Is12 x z e = the_same (truth _) z e (is_truth _)
unary_fits ArmImm x z e = the_same (truth _) z e (is_truth _)
unary_fits _ x z e = none_fits z e

binary_fits : (f : Fun) (x y z : ℤ) → IsSigned 64 x → binary f x y ≡ Some z → IsSigned 64 z
binary_fits Mul x y z h e = the_same (signed 64 _) z e (wrapped _)
binary_fits Shl x y z h e = the_same (signed 64 _) z e (wrapped _)
binary_fits Shr x y z h e = the_same (int_div_euclid x (pos (down_by y))) z e (quotient x (down_by y) h)
binary_fits And x y z h e = the_same (signed 64 _) z e (wrapped _)
binary_fits Add x y z h e = the_same (signed 64 _) z e (wrapped _)
binary_fits Sub x y z h e = the_same (signed 64 _) z e (wrapped _)
binary_fits Or x y z h e = the_same (signed 64 _) z e (wrapped _)
binary_fits Xor x y z h e = the_same (signed 64 _) z e (wrapped _)
binary_fits Eq x y z h e = the_same (truth _) z e (is_truth _)
binary_fits Ne x y z h e = the_same (truth _) z e (is_truth _)
binary_fits Lt x y z h e = the_same (truth _) z e (is_truth _)
binary_fits Le x y z h e = the_same (truth _) z e (is_truth _)
binary_fits Ult x y z h e = the_same (truth _) z e (is_truth _)
binary_fits Ule x y z h e = the_same (truth _) z e (is_truth _)
binary_fits _ x y z h e = none_fits z e

size_below : (x : Ty) (t : Target) → size_of_ty x t ≤ 8
size_below ty.Int Arm = omega arith
size_below ty.Int Riscv64 = omega arith
size_below ty.Uint Arm = omega arith
size_below ty.Uint Riscv64 = omega arith
size_below ty.Uintptr Arm = omega arith
size_below ty.Uintptr Riscv64 = omega arith
size_below ty.Ptr Arm = omega arith
size_below ty.Ptr Riscv64 = omega arith
size_below _ t = omega arith

asked_fits : (t : Target) (e : Env) (f : Fun) (i : ℕ) (z : ℤ) → of_variable t e f i ≡ Some z → IsSigned 64 z
asked_fits t e Size i z q = the_same (pos (size_of_ty (e.ty i) t)) z q (let l = size_below (e.ty i) t in small (size_of_ty (e.ty i) t) (omega (arith, l)))
asked_fits t e IsBool i z q = the_same (truth _) z q (is_truth _)
asked_fits t e Uses i z q = the_same (signed 64 (e.uses i)) z q (wrapped (e.uses i))
asked_fits t e _ i z q = none_fits z q

at_fits : (t : Target) (e : Env) (f : Fun) (o : Option ℕ) (z : ℤ) → at_variable o (of_variable t e f) ≡ Some z → IsSigned 64 z
at_fits t e f None z q = none_fits z q
at_fits t e f (Some i) z q = asked_fits t e f i z q

-- the values of the operands have 64 bits
abbrev AllFit : List Operand → Type 0
AllFit [] = Unit {0}
AllFit (x ∷ xs) = ((z : ℤ) → x.1 ≡ Some z → IsSigned 64 z) × AllFit xs

one_fits : (f : Fun) (o : Option ℤ) (z : ℤ) → on_one o (unary f) ≡ Some z → IsSigned 64 z
one_fits f None z e = none_fits z e
one_fits f (Some x) z e = unary_fits f x z e

two_fit : (f : Fun) (o p : Option ℤ) (z : ℤ) → ((y : ℤ) → o ≡ Some y → IsSigned 64 y) → on_two o p (binary f) ≡ Some z → IsSigned 64 z
two_fit f None p z h e = none_fits z e
two_fit f (Some x) None z h e = none_fits z e
two_fit f (Some x) (Some y) z h e = binary_fits f x y z (h x refl) e

asking_none : (f : Fun) (x y : ℤ) → asks f ≡ true → binary f x y ≡ None
asking_none Size x y a = refl
asking_none IsBool x y a = refl
asking_none Uses x y a = refl
asking_none _ x y a = absurd cc

two_asked : (f : Fun) (o p : Option ℤ) (z : ℤ) → asks f ≡ true → on_two o p (binary f) ≡ Some z → IsSigned 64 z
two_asked f None p z a e = none_fits z e
two_asked f (Some x) None z a e = none_fits z e
two_asked f (Some x) (Some y) z a e = none_fits z (sym (asking_none f x y a) ∙ e)

applied_fits : (t : Target) (e : Env) (f : Fun) (xs : List Operand) → (asks f ≡ true) ⊎ AllFit xs → (z : ℤ) → applied t e f xs ≡ Some z → IsSigned 64 z
applied_fits t e f [] h z q = none_fits z q
applied_fits t e f (x ∷ []) h z q = go (asks f) q
  where
    go : (b : Bool) → (if b then at_variable x.0 (of_variable t e f) else on_one x.1 (unary f)) ≡ Some z → IsSigned 64 z
    go true q = at_fits t e f x.0 z q
    go false q = one_fits f x.1 z q
applied_fits t e f (x ∷ y ∷ []) (inl a) z q = two_asked f x.1 y.1 z a q
applied_fits t e f (x ∷ y ∷ []) (inr h) z q = two_fit f x.1 y.1 z h.0 q
applied_fits t e f (x ∷ y ∷ w ∷ ws) h z q = none_fits z q

mutual
  written : (x : Expr) (t : Target) (e : Env) (l : Pattern) → ((i : ℕ) → NamesInt i l → IsSigned 64 (e.int i)) → IsWritten l x → (z : ℤ) → expr_value t e x ≡ Some z → IsSigned 64 z
  written (expr.Number k) t e l h w z q = the_same k z q w
  written (expr.Var i) t e l h w z q = the_same (e.int i) z q (h i w)
  written (expr.Call' f shape xs) t e l h w z q = applied_fits t e f (operands t e xs) (go (asks f) refl (λ v. all_written xs t e l h v) w) z q
    where
      go : (b : Bool) → asks f ≡ b → (AreWritten l xs → AllFit (operands t e xs)) → MatchBool b (Unit {0}) (AreWritten l xs) → (asks f ≡ true) ⊎ AllFit (operands t e xs)
      go true a r w = inl a
      go false a r w = inr (r w)

  all_written : {m : _} (xs : Row_of-Expr m) (t : Target) (e : Env) (l : Pattern) → ((i : ℕ) → NamesInt i l → IsSigned 64 (e.int i)) → AreWritten l xs → AllFit (operands t e xs)
  all_written end_of-Expr t e l h w = tt
  all_written (more_of-Expr x xs) t e l h (w, ws) = (written x t e l h w, all_written xs t e l h ws)

pub written_fits : (x : Expr) (t : Target) (e : Env) (l : Pattern) → ((i : ℕ) → NamesInt i l → IsSigned 64 (e.int i)) → IsWritten l x → (z : ℤ) → expr_value t e x ≡ Some z → IsSigned 64 z
written_fits x t e l h w z q = written x t e l h w z q

-- ---- AuxInts of the left tree
widened : (a : ℕ) (n : ℤ) → a ≤ 64 → IsSigned a n → IsSigned 64 n
widened a (pos n) l h = (let p : 2 ^ (a - 1) ≤ 2 ^ 63 = pow_mono {i = a - 1} {j = 63} (omega (arith, l)) in (omega (arith, ints), omega (arith, ints, p, h.1)))
widened a (negsuc n) l h = (let p : 2 ^ (a - 1) ≤ 2 ^ 63 = pow_mono {i = a - 1} {j = 63} (omega (arith, l)) in let q = pow_pos (a - 1) in (omega (arith, ints, p, q, h.0), omega (arith, ints)))

between : (n : ℤ) (a b : ℕ) → b < 2 ^ 63 → IsBetween n a b → IsSigned 64 n
between (pos n) a b l h = small n (omega (arith, ints, l, h.1))
between (negsuc n) a b l h = absurd (omega (arith, ints, h.0))

ranged : (s : Setting) (f : FuncRecord) (v : ValueRecord) (o : Family) → is_special o ≡ false → is_op o v.op.a v.op.b ≡ true → InRange s f v o → IsSigned 64 v.int
unfolding InRange
ranged s f v op.Const z i h = widened v.op.a v.int (const_width v.op.a v.op.b i).1 h
ranged s f v op.ConstBool z i h = between v.int 0 2 (omega arith) h
ranged s f v op.Trap z i h = between v.int 1 7 (omega arith) h
ranged s f v op.SelectN z i h = absurd cc
ranged s f v op.ArgWord z i h = absurd cc
ranged s f v op.RetWord z i h = absurd cc
ranged s f v op.OutWord z i h = absurd cc
ranged s f v op.ResWord z i h = absurd cc
ranged s f v op.ArgReg z i h = absurd cc
ranged s f v op.ResReg z i h = absurd cc
ranged s f v _ z i h = h

has_signed : (s : Setting) (f : FuncRecord) (v : ValueRecord) → is_special v.op.family ≡ false → is_op v.op.family v.op.a v.op.b ≡ true → (k : AuxKind) → HasRange s f v k → IsSigned 64 v.int
has_signed s f v z i kind.Int h = ranged s f v v.op.family z i h
has_signed s f v z i kind.None h = subst (IsSigned 64) (sym h) (zero_signed 64)
has_signed s f v z i kind.Name h = subst (IsSigned 64) (sym h) (zero_signed 64)
has_signed s f v z i kind.Ty h = subst (IsSigned 64) (sym h) (zero_signed 64)

mutual
  int_at : (p : Pattern) (s : Setting) (f : FuncRecord) → Typed s f → (bs : List Bound) (i id : ℕ) (cs : List Bool) → IsPlain p → Matches f bs p id cs → NamesInt i p → IsSigned 64 (int_in (slice_get bs i))
  int_at pattern.Any s f k bs i id cs p m n = elim n [ ]
  int_at (pattern.Var j) s f k bs i id cs p m n = elim n [ ]
  int_at (pattern.Node' name o ty int x shape ps) s f k bs i id cs (h, hs) (a, (v, e, d, y, z, q, ms)) (inl n) =
      let r = value_found f id v e in
      let t = (k.types r.0 r.1.0).value v r.1.1 in
      let plain : is_special v.op.family ≡ false = ap (λ (y : Op). is_special y.family) d ∙ h.family in
      let w : IsSigned 64 v.int = has_signed s f v plain t.op (info_of v.op).aux ((k.width r.0 r.1.0).value v r.1.1) in
      let z2 : IntMatches bs (Some (part.Var i)) v.int = (let P : Option IntPart → Type 0 = λ y. IntMatches bs y v.int in subst P n z) in
      subst (IsSigned 64) (sym (ap int_in z2)) w
  int_at (pattern.Node' name o ty int x shape ps) s f k bs i id cs (h, hs) (a, (v, e, d, y, z, q, ms)) (inr n) = int_among ps s f k bs i (ordered o cs v.args) (drop (order_of o) cs) hs ms n

  int_among : {c : _} (ps : Row_of-Pattern c) (s : Setting) (f : FuncRecord) → Typed s f → (bs : List Bound) (i : ℕ) (ids : List ℕ) (cs : List Bool) → ArePlain ps → MatchesEach f bs ps ids cs → NamesIntAmong i ps →
      IsSigned 64 (int_in (slice_get bs i))
  int_among end_of-Pattern s f k bs i ids cs p m n = elim n [ ]
  int_among (more_of-Pattern p ps) s f k bs i [] cs h m n = elim m [ ]
  int_among (more_of-Pattern p ps) s f k bs i (y ∷ ids) cs (h, hs) (m, ms) (inl n) = int_at p s f k bs i y cs h m n
  int_among (more_of-Pattern p ps) s f k bs i (y ∷ ids) cs (h, hs) (m, ms) (inr n) = int_among ps s f k bs i ids (drop (orders p) cs) hs ms n

-- an AuxInt that the left tree names, where it stands
pub int_named : (p : Pattern) (s : Setting) (f : FuncRecord) → Typed s f → (bs : List Bound) (i id : ℕ) (cs : List Bool) → IsPlain p → Matches f bs p id cs → NamesInt i p → IsSigned 64 (int_in (slice_get bs i))
int_named p s f k bs i id cs h m n = int_at p s f k bs i id cs h m n
