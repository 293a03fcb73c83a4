-- A row is found by its funct fields, and what is found has them.
use Rattle.std.proofs.Common.{◌≡◌, ℕ, ◌%◌, ◌<◌, List, [], ◌∷◌, subst, arith, refl, Bool, true, false, Some, None, Option, cond, ◌⊎◌, inl, inr}
use Rattle.std.specs.Prelude.{◌&&◌, ◌==◌, find, option_map}
use Rattle.std.proofs.lemmas.Bool.Decides.{nat_tests}
use Rattle.bk_rv_isa.specs.declared.inst.RegisterOp.{RegisterOp}
use Rattle.bk_rv_isa.specs.declared.inst.RegisterOp.TheVariants.{Add, Sub, Sll, Slt, Sltu, Xor, Srl, Sra, Or, And, Mul, Mulh, Mulhsu, Mulhu, Div, Divu, Rem, Remu}
use Rattle.bk_rv_isa.specs.declared.inst.ImmediateOp.{ImmediateOp}
use Rattle.bk_rv_isa.specs.declared.inst.ImmediateOp.TheVariants.{Addi, Slti, Sltiu, Xori, Ori, Andi}
use Rattle.bk_rv_isa.specs.declared.inst.ShiftOp.{ShiftOp}
use Rattle.bk_rv_isa.specs.declared.inst.ShiftOp.TheVariants.{Slli, Srli, Srai}
use Rattle.bk_rv_isa.specs.declared.inst.LoadOp.{LoadOp}
use Rattle.bk_rv_isa.specs.declared.inst.LoadOp.TheVariants.{Lb, Lh, Lw, Ld, Lbu, Lhu, Lwu}
use Rattle.bk_rv_isa.specs.declared.inst.StoreOp.{StoreOp}
use Rattle.bk_rv_isa.specs.declared.inst.StoreOp.TheVariants.{Sb, Sh, Sw, Sd}
use Rattle.bk_rv_isa.specs.declared.inst.BranchOp.{BranchOp}
use Rattle.bk_rv_isa.specs.declared.inst.BranchOp.TheVariants.{Beq, Bne, Blt, Bge, Bltu, Bgeu}
use Rattle.bk_rv_isa.specs.Encoding.{register_funct3, register_funct7, immediate_funct3, shift_funct3, shift_funct6, load_funct3, store_funct3, branch_funct3, register_op, immediate_op, shift_op, load_op, store_op, branch_op}

pub chosen : {A : Type 0} (b : Bool) (x y z : A) → cond b x y ≡ z → ((b ≡ true) × (x ≡ z)) ⊎ ((b ≡ false) × (y ≡ z))
chosen true x y z h = inl (refl, h)
chosen false x y z h = inr (refl, h)

pub both : (a b : Bool) → a && b ≡ true → (a ≡ true) × (b ≡ true)
both true b h = (refl, h)
both false b h = cc

pub eq_of : (a b : ℕ) → (a == b) ≡ true → a ≡ b
eq_of a b h = grind (arith, nat_tests)

pub mapped : {A B : Type 0} (f : A → B) (o : Option A) (y : B) → option_map f o ≡ Some y → (x : A) × (o ≡ Some x) × (f x ≡ y)
mapped f None y h = cc
mapped f (Some x) y h = (x, refl, let q = h in cc)

found : {A : Type 0} (p : A → Bool) (xs : List A) (x : A) → find p xs ≡ Some x → p x ≡ true
found p [] x h = cc
found p (y ∷ ys) x h =
    elim (chosen (p y) (Some y) (find p ys) (Some x) h) [
      | inl q ↦ (let e : y ≡ x = let r = q.1 in cc in subst (λ z. p z ≡ true) e q.0)
      | inr q ↦ found p ys x q.1
    ]

pub register_found : (f3 f7 : ℕ) (op : RegisterOp) → register_op f3 f7 ≡ Some op → (register_funct3 op ≡ f3) × (register_funct7 op ≡ f7)
unfolding register_op
register_found f3 f7 op h =
    let b = both (register_funct3 op == f3) (register_funct7 op == f7) (found (λ op. register_funct3 op == f3 && register_funct7 op == f7) (Add ∷ Sub ∷ Sll ∷ Slt ∷ Sltu ∷ Xor ∷ Srl ∷ Sra ∷ Or ∷ And ∷ Mul ∷ Mulh ∷ Mulhsu ∷ Mulhu ∷ Div ∷ Divu ∷ Rem ∷ Remu ∷ []) op h) in
    (eq_of (register_funct3 op) f3 b.0, eq_of (register_funct7 op) f7 b.1)

pub register_there : (op : RegisterOp) → register_op (register_funct3 op) (register_funct7 op) ≡ Some op
unfolding register_op
register_there Add = refl
register_there Sub = refl
register_there Sll = refl
register_there Slt = refl
register_there Sltu = refl
register_there Xor = refl
register_there Srl = refl
register_there Sra = refl
register_there Or = refl
register_there And = refl
register_there Mul = refl
register_there Mulh = refl
register_there Mulhsu = refl
register_there Mulhu = refl
register_there Div = refl
register_there Divu = refl
register_there Rem = refl
register_there Remu = refl

pub register_below : (op : RegisterOp) → (register_funct3 op < 8) × (register_funct7 op < 128)
register_below Add = (omega arith, omega arith)
register_below Sub = (omega arith, omega arith)
register_below Sll = (omega arith, omega arith)
register_below Slt = (omega arith, omega arith)
register_below Sltu = (omega arith, omega arith)
register_below Xor = (omega arith, omega arith)
register_below Srl = (omega arith, omega arith)
register_below Sra = (omega arith, omega arith)
register_below Or = (omega arith, omega arith)
register_below And = (omega arith, omega arith)
register_below Mul = (omega arith, omega arith)
register_below Mulh = (omega arith, omega arith)
register_below Mulhsu = (omega arith, omega arith)
register_below Mulhu = (omega arith, omega arith)
register_below Div = (omega arith, omega arith)
register_below Divu = (omega arith, omega arith)
register_below Rem = (omega arith, omega arith)
register_below Remu = (omega arith, omega arith)

pub shift_found : (f3 f7 : ℕ) (op : ShiftOp) → shift_op f3 f7 ≡ Some op → (shift_funct3 op ≡ f3) × (shift_funct6 op ≡ f7)
unfolding shift_op
shift_found f3 f7 op h =
    let b = both (shift_funct3 op == f3) (shift_funct6 op == f7) (found (λ op. shift_funct3 op == f3 && shift_funct6 op == f7) (Slli ∷ Srli ∷ Srai ∷ []) op h) in
    (eq_of (shift_funct3 op) f3 b.0, eq_of (shift_funct6 op) f7 b.1)

pub shift_there : (op : ShiftOp) → shift_op (shift_funct3 op) (shift_funct6 op) ≡ Some op
unfolding shift_op
shift_there Slli = refl
shift_there Srli = refl
shift_there Srai = refl

pub shift_below : (op : ShiftOp) → (shift_funct3 op < 8) × (shift_funct6 op < 64)
shift_below Slli = (omega arith, omega arith)
shift_below Srli = (omega arith, omega arith)
shift_below Srai = (omega arith, omega arith)

pub immediate_found : (f3 : ℕ) (op : ImmediateOp) → immediate_op f3 ≡ Some op → immediate_funct3 op ≡ f3
unfolding immediate_op
immediate_found f3 op h = eq_of (immediate_funct3 op) f3 (found (λ op. immediate_funct3 op == f3) (Addi ∷ Slti ∷ Sltiu ∷ Xori ∷ Ori ∷ Andi ∷ []) op h)

pub immediate_there : (op : ImmediateOp) → immediate_op (immediate_funct3 op) ≡ Some op
unfolding immediate_op
immediate_there Addi = refl
immediate_there Slti = refl
immediate_there Sltiu = refl
immediate_there Xori = refl
immediate_there Ori = refl
immediate_there Andi = refl

pub immediate_below : (op : ImmediateOp) → immediate_funct3 op < 8
immediate_below Addi = omega arith
immediate_below Slti = omega arith
immediate_below Sltiu = omega arith
immediate_below Xori = omega arith
immediate_below Ori = omega arith
immediate_below Andi = omega arith

pub load_found : (f3 : ℕ) (op : LoadOp) → load_op f3 ≡ Some op → load_funct3 op ≡ f3
unfolding load_op
load_found f3 op h = eq_of (load_funct3 op) f3 (found (λ op. load_funct3 op == f3) (Lb ∷ Lh ∷ Lw ∷ Ld ∷ Lbu ∷ Lhu ∷ Lwu ∷ []) op h)

pub load_there : (op : LoadOp) → load_op (load_funct3 op) ≡ Some op
unfolding load_op
load_there Lb = refl
load_there Lh = refl
load_there Lw = refl
load_there Ld = refl
load_there Lbu = refl
load_there Lhu = refl
load_there Lwu = refl

pub load_below : (op : LoadOp) → load_funct3 op < 8
load_below Lb = omega arith
load_below Lh = omega arith
load_below Lw = omega arith
load_below Ld = omega arith
load_below Lbu = omega arith
load_below Lhu = omega arith
load_below Lwu = omega arith

pub store_found : (f3 : ℕ) (op : StoreOp) → store_op f3 ≡ Some op → store_funct3 op ≡ f3
unfolding store_op
store_found f3 op h = eq_of (store_funct3 op) f3 (found (λ op. store_funct3 op == f3) (Sb ∷ Sh ∷ Sw ∷ Sd ∷ []) op h)

pub store_there : (op : StoreOp) → store_op (store_funct3 op) ≡ Some op
unfolding store_op
store_there Sb = refl
store_there Sh = refl
store_there Sw = refl
store_there Sd = refl

pub store_below : (op : StoreOp) → store_funct3 op < 8
store_below Sb = omega arith
store_below Sh = omega arith
store_below Sw = omega arith
store_below Sd = omega arith

pub branch_found : (f3 : ℕ) (op : BranchOp) → branch_op f3 ≡ Some op → branch_funct3 op ≡ f3
unfolding branch_op
branch_found f3 op h = eq_of (branch_funct3 op) f3 (found (λ op. branch_funct3 op == f3) (Beq ∷ Bne ∷ Blt ∷ Bge ∷ Bltu ∷ Bgeu ∷ []) op h)

pub branch_there : (op : BranchOp) → branch_op (branch_funct3 op) ≡ Some op
unfolding branch_op
branch_there Beq = refl
branch_there Bne = refl
branch_there Blt = refl
branch_there Bge = refl
branch_there Bltu = refl
branch_there Bgeu = refl

pub branch_below : (op : BranchOp) → branch_funct3 op < 8
branch_below Beq = omega arith
branch_below Bne = omega arith
branch_below Blt = omega arith
branch_below Bge = omega arith
branch_below Bltu = omega arith
branch_below Bgeu = omega arith

-- the rows of opcode 0x13 that shift, and those that do not
pub shift_rows : (op : ShiftOp) → (shift_funct3 op % 4 == 1) ≡ true
shift_rows Slli = refl
shift_rows Srli = refl
shift_rows Srai = refl

pub immediate_rows : (op : ImmediateOp) → (immediate_funct3 op % 4 == 1) ≡ false
immediate_rows Addi = refl
immediate_rows Slti = refl
immediate_rows Sltiu = refl
immediate_rows Xori = refl
immediate_rows Ori = refl
immediate_rows Andi = refl
