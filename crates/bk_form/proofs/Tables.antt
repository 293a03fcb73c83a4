-- What tables say of the ops that they do not name.
use Rattle.std.proofs.Common.{◌≡◌, ◌∙◌, refl, sym, ap, ℕ, ◌+◌, ◌<◌, ◌↔◌, List, [], ◌∷◌, length, take, Option, Some, None, arith}
use Rattle.std.specs.Option.{IfSome}
use Rattle.std.proofs.lemmas.Option.{none-some, same_Some}
use Rattle.bk_ops.specs.Table.{info_of}
use Rattle.bk_ops.specs.declared.types.Target.{Target}
use Rattle.bk_ops.specs.declared.family.Family.{Family}
use Rattle.bk_ops.specs.declared.family.Family.TheVariants as op
use Rattle.bk_ops.specs.declared.family.ArmOp.{ArmOp}
use Rattle.bk_ops.specs.declared.family.ArmOp.TheVariants as arm
use Rattle.bk_ops.specs.declared.family.RvOp.{RvOp}
use Rattle.bk_ops.specs.declared.family.RvOp.TheVariants as rv
use Rattle.bk_func.specs.Form.Parts.{nothing, symbol_of, registers_arity, HasArity}
use Rattle.bk_func.specs.Form.{strict}
use Rattle.bk_func.specs.Form.Signatures.{Setting, sig_of}
use Rattle.bk_func.specs.Words.{register_words}
use Rattle.bk_func.specs.Records.{ValueRecord, BlockRecord, FuncRecord, SigRecord, PackageRecord}

pub arm_nothing : (m : ArmOp) → (m ≡ arm.Addr → ⊥) → nothing ≡ symbol_of (op.Arm m)
unfolding symbol_of
arm_nothing arm.Addr h = absurd (h refl)
arm_nothing _ h = refl

pub rv_nothing : (m : RvOp) → (m ≡ rv.Addr → ⊥) → nothing ≡ symbol_of (op.Rv m)
unfolding symbol_of
rv_nothing rv.Addr h = absurd (h refl)
rv_nothing _ h = refl

pub no_symbol : (o : Family) → (o ≡ op.StaticLECall → ⊥) → (o ≡ op.Call → ⊥) → (o ≡ op.CallRegs → ⊥) → (o ≡ op.Addr → ⊥) → (o ≡ op.Arg → ⊥)
    → ((m : ArmOp) → o ≡ op.Arm m → ⊥) → ((m : RvOp) → o ≡ op.Rv m → ⊥) → nothing ≡ symbol_of o
unfolding symbol_of
no_symbol op.StaticLECall a b r c d e f = absurd (a refl)
no_symbol op.Call a b r c d e f = absurd (b refl)
no_symbol op.CallRegs a b r c d e f = absurd (r refl)
no_symbol op.Addr a b r c d e f = absurd (c refl)
no_symbol op.Arg a b r c d e f = absurd (d refl)
no_symbol (op.Arm m) a b r c d e f = absurd (e m refl)
no_symbol (op.Rv m) a b r c d e f = absurd (f m refl)
no_symbol _ a b r c d e f = refl

-- an op whose count of arguments its row says
pub fixed_arity : (s : Setting) (f : FuncRecord) (b : BlockRecord) (v : ValueRecord) (o : Family) → (o ≡ op.Phi → ⊥) → (o ≡ op.MakeResult → ⊥) → (o ≡ op.StaticLECall → ⊥) → (o ≡ op.CallRegs → ⊥) → (o ≡ op.RetRegs → ⊥)
    → IfSome (info_of v.op).arity (λ n. length v.args ≡ n) ↔ HasArity s f b v o
unfolding HasArity
fixed_arity s f b v op.Phi x y z w r = absurd (x refl)
fixed_arity s f b v op.MakeResult x y z w r = absurd (y refl)
fixed_arity s f b v op.StaticLECall x y z w r = absurd (z refl)
fixed_arity s f b v op.CallRegs x y z w r = absurd (w refl)
fixed_arity s f b v op.RetRegs x y z w r = absurd (r refl)
fixed_arity s f b v _ x y z w r = ((λ h. h), (λ h. h))

-- the others
pub phi_arity : (s : Setting) (f : FuncRecord) (b : BlockRecord) (v : ValueRecord) (o : Family) → o ≡ op.Phi → ((length v.args ≡ length b.preds) × ¬ (v.args ≡ [])) ↔ HasArity s f b v o
unfolding HasArity
phi_arity s f b v o e = rw e ((λ h. h), (λ h. h))

pub result_arity : (p : PackageRecord) (t : Target) (f : FuncRecord) (b : BlockRecord) (v : ValueRecord) (o : Family) → o ≡ op.MakeResult
    → (length v.args ≡ length f.sig.results + 1) ↔ HasArity (strict p t) f b v o
unfolding HasArity
result_arity p t f b v o e = rw e ((λ h. h), (λ h. h))

pub call_arity_is : (p : PackageRecord) (t : Target) (f : FuncRecord) (b : BlockRecord) (v : ValueRecord) (o : Family) (g : SigRecord) → o ≡ op.StaticLECall → sig_of p v.aux ≡ Some g
    → (length v.args ≡ length g.args + 1) ↔ HasArity (strict p t) f b v o
unfolding HasArity
call_arity_is p t f b v o g e h = rw (e, h) ((λ k. ap Some (sym k)), (λ k. sym (same_Some (length g.args + 1) (length v.args) k)))

pub no_call_arity : (p : PackageRecord) (t : Target) (f : FuncRecord) (b : BlockRecord) (v : ValueRecord) (o : Family) → o ≡ op.StaticLECall → sig_of p v.aux ≡ None
    → ¬ HasArity (strict p t) f b v o
unfolding HasArity
no_call_arity p t f b v o e h k = none-some (length v.args) (rw (e, h) at k)

-- a list is not empty exactly where it has something in it
pub some_in : (xs : List ℕ) → (0 < length xs) ↔ ¬ (xs ≡ [])
some_in [] = ((λ l. absurd (omega arith)), (λ n. absurd (n refl)))
some_in (x ∷ xs) = ((λ l e. absurd (omega (arith, ap length e))), (λ n. omega arith))

-- words that are passed in registers
pub registers_arity_is : (p : PackageRecord) (t : Target) (f : FuncRecord) (b : BlockRecord) (v : ValueRecord) (o : Family) → o ≡ op.CallRegs
    → ((g : SigRecord) × (sig_of p v.aux ≡ Some g) × (length v.args ≡ length (take (register_words t) g.args) + 1)) ↔ HasArity (strict p t) f b v o
unfolding HasArity
registers_arity_is p t f b v o e = rw e (by (sig_of p v.aux) refl)
  where
    by : (x : Option SigRecord) → sig_of p v.aux ≡ x
        → ((g : SigRecord) × (sig_of p v.aux ≡ Some g) × (length v.args ≡ length (take (register_words t) g.args) + 1)) ↔ (registers_arity (strict p t) (sig_of p v.aux) ≡ Some (length v.args))
    by None none = rw none ((λ (g, h, k). absurd (none-some g h)), (λ k. absurd (none-some (length v.args) k)))
    by (Some g) some = rw some (
      (λ (h, same, k). ap (λ (z : SigRecord). Some (length (take (register_words t) z.args) + 1)) (same_Some g h same) ∙ ap Some (sym k)),
      (λ k. (g, refl, sym (same_Some (length (take (register_words t) g.args) + 1) (length v.args) k))),
    )

pub returned_arity : (p : PackageRecord) (t : Target) (f : FuncRecord) (b : BlockRecord) (v : ValueRecord) (o : Family) → o ≡ op.RetRegs
    → ((length v.args ≡ length (take (register_words t) f.sig.results) + 1) × (1 < length v.args)) ↔ HasArity (strict p t) f b v o
unfolding HasArity
returned_arity p t f b v o e = rw e ((λ h. h), (λ h. h))

-- one equivalence after the other
pub through : {A B C : Type 0} → (A ↔ B) → (B ↔ C) → (A ↔ C)
through (f, g) (h, k) = ((λ a. h (f a)), (λ c. g (k c)))
