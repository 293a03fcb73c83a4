-- What the definitions of form ask of each family of ops.
use Rattle.std.proofs.Common.{◌≡◌, refl, ℕ, pos, ◌+◌, ◌⊎◌, ◌↔◌, inl, inr, length, Some}
use Rattle.bk_ops.specs.declared.family.Family.{Family}
use Rattle.bk_ops.specs.declared.family.Family.TheVariants as op
use Rattle.bk_ops.specs.declared.table.AuxKind.{AuxKind}
use Rattle.bk_ops.specs.declared.table.AuxKind.TheVariants as kind
use Rattle.bk_ops.specs.declared.types.Ty.TheVariants.{Mem}
use Rattle.bk_func.specs.Records.{ValueRecord, FuncRecord, SigRecord}
use Rattle.bk_func.specs.Form.Signatures.{Setting, in_registers, sig_of, ResultOf, ArgumentOf}
use Rattle.bk_func.specs.Form.Parts.{HasRange, InRange, IsSigned, IsBetween, IsArgumentWord, IsResultWord, IsInRegister}
use Rattle.bk_func.specs.Form.Shapes.{GivesWord, GivesResults, GivesByType, GivesList, GivesArgument, GivesResult, FitsPlace, FitsList, FitsSlot, FitsWord, FitsPlaceOf, FitsWordOf, IsData, slot}

-- ranges of numbers
pub const_range : (s : Setting) (f : FuncRecord) (v : ValueRecord) (o : Family) → o ≡ op.Const → IsSigned v.op.a v.int ↔ InRange s f v o
unfolding InRange
const_range s f v o e = rw e ((λ h. h), (λ h. h))

pub truth_range : (s : Setting) (f : FuncRecord) (v : ValueRecord) (o : Family) → o ≡ op.ConstBool → IsBetween v.int 0 2 ↔ InRange s f v o
unfolding InRange
truth_range s f v o e = rw e ((λ h. h), (λ h. h))

pub trap_range : (s : Setting) (f : FuncRecord) (v : ValueRecord) (o : Family) → o ≡ op.Trap → IsBetween v.int 1 7 ↔ InRange s f v o
unfolding InRange
trap_range s f v o e = rw e ((λ h. h), (λ h. h))

pub result_range : (s : Setting) (f : FuncRecord) (v : ValueRecord) (o : Family) → o ≡ op.SelectN
    → ((g : SigRecord) × ResultOf s.pkg f v g × IsBetween v.int 0 (length (s.places g.results) + 1)) ↔ InRange s f v o
unfolding InRange
result_range s f v o e = rw e ((λ h. h), (λ h. h))

pub argument_word_range : (s : Setting) (f : FuncRecord) (v : ValueRecord) (o : Family) → o ≡ op.ArgWord → IsArgumentWord s f.sig v.int ↔ InRange s f v o
unfolding InRange
argument_word_range s f v o e = rw e ((λ h. h), (λ h. h))

pub return_word_range : (s : Setting) (f : FuncRecord) (v : ValueRecord) (o : Family) → o ≡ op.RetWord → IsResultWord s f.sig v.int ↔ InRange s f v o
unfolding InRange
return_word_range s f v o e = rw e ((λ h. h), (λ h. h))

pub result_word_range : (s : Setting) (f : FuncRecord) (v : ValueRecord) (o : Family) → o ≡ op.ResWord
    → ((g : SigRecord) × ResultOf s.pkg f v g × IsResultWord s g v.int) ↔ InRange s f v o
unfolding InRange
result_word_range s f v o e = rw e ((λ h. h), (λ h. h))

pub argument_register_range : (s : Setting) (f : FuncRecord) (v : ValueRecord) (o : Family) → o ≡ op.ArgReg → IsInRegister s f.sig.args v.int ↔ InRange s f v o
unfolding InRange
argument_register_range s f v o e = rw e ((λ h. h), (λ h. h))

pub result_register_range : (s : Setting) (f : FuncRecord) (v : ValueRecord) (o : Family) → o ≡ op.ResReg
    → ((g : SigRecord) × ResultOf s.pkg f v g × IsInRegister s g.results v.int) ↔ InRange s f v o
unfolding InRange
result_register_range s f v o e = rw e ((λ h. h), (λ h. h))

pub argument_range : (s : Setting) (f : FuncRecord) (v : ValueRecord) (o : Family) → o ≡ op.OutWord
    → ((g : SigRecord) × ArgumentOf s.pkg f v g × IsArgumentWord s g v.int) ↔ InRange s f v o
unfolding InRange
argument_range s f v o e = rw e ((λ h. h), (λ h. h))

pub other_number : (s : Setting) (f : FuncRecord) (v : ValueRecord) (o : Family) → (o ≡ op.Const → ⊥) → (o ≡ op.ConstBool → ⊥) → (o ≡ op.Trap → ⊥) → (o ≡ op.SelectN → ⊥)
    → (o ≡ op.ArgWord → ⊥) → (o ≡ op.RetWord → ⊥) → (o ≡ op.ResWord → ⊥) → (o ≡ op.OutWord → ⊥) → (o ≡ op.ArgReg → ⊥) → (o ≡ op.ResReg → ⊥) → IsSigned 64 v.int ↔ InRange s f v o
unfolding InRange
other_number s f v op.Const a b c d e g h i j k = absurd (a refl)
other_number s f v op.ConstBool a b c d e g h i j k = absurd (b refl)
other_number s f v op.Trap a b c d e g h i j k = absurd (c refl)
other_number s f v op.SelectN a b c d e g h i j k = absurd (d refl)
other_number s f v op.ArgWord a b c d e g h i j k = absurd (e refl)
other_number s f v op.RetWord a b c d e g h i j k = absurd (g refl)
other_number s f v op.ResWord a b c d e g h i j k = absurd (h refl)
other_number s f v op.OutWord a b c d e g h i j k = absurd (i refl)
other_number s f v op.ArgReg a b c d e g h i j k = absurd (j refl)
other_number s f v op.ResReg a b c d e g h i j k = absurd (k refl)
other_number s f v _ a b c d e g h i j k = ((λ h. h), (λ h. h))

-- words
pub argument_word : (s : Setting) (f : FuncRecord) (v : ValueRecord) (o : Family) → o ≡ op.ArgWord → (IsData s v.ty × FitsWordOf s f.sig v.int v.ty) ↔ GivesWord s f v o
unfolding GivesWord
argument_word s f v o e = rw e ((λ h. h), (λ h. h))

pub result_word : (s : Setting) (f : FuncRecord) (v : ValueRecord) (o : Family) → o ≡ op.ResWord
    → (IsData s v.ty × ((g : SigRecord) → ResultOf s.pkg f v g → FitsWordOf s g v.int v.ty)) ↔ GivesWord s f v o
unfolding GivesWord
result_word s f v o e = rw e ((λ h. h), (λ h. h))

pub machine_word : (s : Setting) (f : FuncRecord) (v : ValueRecord) (o : Family) → (o ≡ op.ArgWord → ⊥) → (o ≡ op.ResWord → ⊥) → (o ≡ op.ArgReg → ⊥) → (o ≡ op.ResReg → ⊥)
    → FitsWord s v.ty ↔ GivesWord s f v o
unfolding GivesWord
machine_word s f v op.ArgWord a b c d = absurd (a refl)
machine_word s f v op.ResWord a b c d = absurd (b refl)
machine_word s f v op.ArgReg a b c d = absurd (c refl)
machine_word s f v op.ResReg a b c d = absurd (d refl)
machine_word s f v _ a b c d = ((λ h. h), (λ h. h))

pub argument_register : (s : Setting) (f : FuncRecord) (v : ValueRecord) (o : Family) → o ≡ op.ArgReg
    → (IsData s v.ty × FitsPlaceOf s (s.places f.sig.args) v.int v.ty) ↔ GivesWord s f v o
unfolding GivesWord
argument_register s f v o e = rw e ((λ h. h), (λ h. h))

pub result_register : (s : Setting) (f : FuncRecord) (v : ValueRecord) (o : Family) → o ≡ op.ResReg
    → (IsData s v.ty × ((g : SigRecord) → ResultOf s.pkg f v g → FitsPlaceOf s (s.places g.results) v.int v.ty)) ↔ GivesWord s f v o
unfolding GivesWord
result_register s f v o e = rw e ((λ h. h), (λ h. h))

-- lists of results
pub own_results : (s : Setting) (f : FuncRecord) (v : ValueRecord) (o : Family) → o ≡ op.MakeResult → GivesList (Some f.sig) v.ty ↔ GivesResults s f v o
unfolding GivesResults
own_results s f v o e = rw e ((λ h. h), (λ h. h))

pub call_results : (s : Setting) (f : FuncRecord) (v : ValueRecord) (o : Family) → (o ≡ op.MakeResult → ⊥) → GivesList (sig_of s.pkg v.aux) v.ty ↔ GivesResults s f v o
unfolding GivesResults
call_results s f v op.MakeResult a = absurd (a refl)
call_results s f v _ a = ((λ h. h), (λ h. h))

-- types that the value itself says
pub phi_type : (s : Setting) (f : FuncRecord) (v : ValueRecord) (o : Family) → (o ≡ op.Phi) ⊎ (o ≡ op.Copy) → ((v.ty ≡ Mem) ⊎ IsData s v.ty) ↔ GivesByType s f v o
unfolding GivesByType
phi_type s f v o (inl e) = rw e ((λ h. h), (λ h. h))
phi_type s f v o (inr e) = rw e ((λ h. h), (λ h. h))

pub argument_type : (s : Setting) (f : FuncRecord) (v : ValueRecord) (o : Family) → o ≡ op.Arg → GivesArgument s (s.places f.sig.args) v.aux v.ty ↔ GivesByType s f v o
unfolding GivesByType
argument_type s f v o e = rw e ((λ h. h), (λ h. h))

pub result_type : (s : Setting) (f : FuncRecord) (v : ValueRecord) (o : Family) → o ≡ op.SelectN
    → ((g : SigRecord) × ResultOf s.pkg f v g × GivesResult s (s.places g.results) v.int v.ty) ↔ GivesByType s f v o
unfolding GivesByType
result_type s f v o e = rw e ((λ h. h), (λ h. h))

pub data_type : (s : Setting) (f : FuncRecord) (v : ValueRecord) (o : Family) → (o ≡ op.Phi → ⊥) → (o ≡ op.Copy → ⊥) → (o ≡ op.Arg → ⊥) → (o ≡ op.SelectN → ⊥)
    → IsData s v.ty ↔ GivesByType s f v o
unfolding GivesByType
data_type s f v op.Phi a b c d = absurd (a refl)
data_type s f v op.Copy a b c d = absurd (b refl)
data_type s f v op.Arg a b c d = absurd (c refl)
data_type s f v op.SelectN a b c d = absurd (d refl)
data_type s f v _ a b c d = ((λ h. h), (λ h. h))

-- places of arguments
pub call_place : (s : Setting) (f : FuncRecord) (v u : ValueRecord) (o : Family) (i : ℕ) → o ≡ op.StaticLECall → FitsList s (sig_of s.pkg v.aux) (λ g. g.args) i u ↔ FitsPlace s f v o i u
unfolding FitsPlace
call_place s f v u o i e = rw e ((λ h. h), (λ h. h))

pub own_place : (s : Setting) (f : FuncRecord) (v u : ValueRecord) (o : Family) (i : ℕ) → o ≡ op.MakeResult → FitsList s (Some f.sig) (λ g. g.results) i u ↔ FitsPlace s f v o i u
unfolding FitsPlace
own_place s f v u o i e = rw e ((λ h. h), (λ h. h))

pub register_place : (s : Setting) (f : FuncRecord) (v u : ValueRecord) (o : Family) (i : ℕ) → o ≡ op.CallRegs
    → FitsList s (sig_of s.pkg v.aux) (λ g. in_registers s g.args) i u ↔ FitsPlace s f v o i u
unfolding FitsPlace
register_place s f v u o i e = rw e ((λ h. h), (λ h. h))

pub own_register_place : (s : Setting) (f : FuncRecord) (v u : ValueRecord) (o : Family) (i : ℕ) → o ≡ op.RetRegs
    → FitsList s (Some f.sig) (λ g. in_registers s g.results) i u ↔ FitsPlace s f v o i u
unfolding FitsPlace
own_register_place s f v u o i e = rw e ((λ h. h), (λ h. h))

pub slot_place : (s : Setting) (f : FuncRecord) (v u : ValueRecord) (o : Family) (i : ℕ) → (o ≡ op.StaticLECall → ⊥) → (o ≡ op.MakeResult → ⊥) → (o ≡ op.CallRegs → ⊥) → (o ≡ op.RetRegs → ⊥)
    → FitsSlot s f v u (slot v.op o i) ↔ FitsPlace s f v o i u
unfolding FitsPlace
slot_place s f v u op.StaticLECall i a b c d = absurd (a refl)
slot_place s f v u op.MakeResult i a b c d = absurd (b refl)
slot_place s f v u op.CallRegs i a b c d = absurd (c refl)
slot_place s f v u op.RetRegs i a b c d = absurd (d refl)
slot_place s f v u _ i a b c d = ((λ h. h), (λ h. h))

-- an op without a number
pub other_range : (s : Setting) (f : FuncRecord) (v : ValueRecord) (x : AuxKind) → (x ≡ kind.Int → ⊥) → (v.int ≡ pos 0) ↔ HasRange s f v x
other_range s f v kind.Int a = absurd (a refl)
other_range s f v _ a = ((λ h. h), (λ h. h))

pub int_range : (s : Setting) (f : FuncRecord) (v : ValueRecord) (x : AuxKind) → x ≡ kind.Int → InRange s f v v.op.family ↔ HasRange s f v x
int_range s f v x e = rw e ((λ h. h), (λ h. h))
