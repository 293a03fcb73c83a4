-- The units of pure ops, family by family: what stands at the pc leaves this number.
use Rattle.std.proofs.Common.{◌≡◌, ◌≢◌, ℕ, ◌+◌, ◌*◌, ◌%◌, ◌^◌, ◌<◌, [], ◌∷◌, ap, ◌∙◌, sym, refl, arith, Some, None, Bool, true, false, cond, ◌==◌, IsTrue, ℤ, pos, negsuc, ◌-ℤ◌, ◌*ℤ◌, nat_lt, bit_and, bit_or}
use Rattle.std.proofs.Math.Nat.{mod-eq_of_lt}
use Rattle.bk_num.specs.Word.{residue, fits_signed}
use Rattle.bk_num.proofs.Signs.{residue_below}
use Rattle.bk_rv_isa.specs.declared.inst.RegisterOp.{RegisterOp}
use Rattle.bk_rv_isa.specs.declared.inst.RegisterOp.TheVariants as register
use Rattle.bk_rv_isa.specs.declared.inst.ImmediateOp.{ImmediateOp}
use Rattle.bk_rv_isa.specs.declared.inst.ImmediateOp.TheVariants.{Addi, Sltiu, Andi}
use Rattle.bk_rv_isa.specs.declared.inst.ShiftOp.{ShiftOp}
use Rattle.bk_rv_isa.specs.declared.inst.LoadOp.TheVariants.{Ld}
use Rattle.bk_rv_isa.specs.declared.inst.BranchOp.TheVariants.{Beq}
use Rattle.bk_rv_isa.specs.declared.inst.Inst.TheVariants as i
use Rattle.bk_rv_isa.specs.Machine.{Machine, reg, plus, load, jumped, with_reg, register_result, immediate_result, shift_result, flag, extended, on_load}
use Rattle.bk_rv_emit.specs.Units.{shift, sign_shift, rotation, choice}
use Rattle.bk_rv_emit.specs.Numbers.{upper, lower}
use Rattle.bk_rv_emit_laws.specs.Does.{Does, ConstDoes, IsPooled}
use Rattle.bk_rv_emit_laws.proofs.Paths as P
use Rattle.bk_rv_emit_laws.proofs.Words as W
use Rattle.bk_rv_emit_laws.proofs.Constants.{made, address}

-- one instruction that leaves its result in d

pub of_registers : (o : RegisterOp) (m : Machine) (d a b v : ℕ) → register_result o (reg m.regs a) (reg m.regs b) ≡ v → Does (i.Op o d a b ∷ []) m d v
of_registers o m d a b v e w t low f h =
    let p0 = P.here d m w in
    let p = P.op d m m o d a b (reg m.regs a) (reg m.regs b) v p0 h.0 refl refl e (P.result d t) in
    P.ends (i.Op o d a b ∷ []) d m (with_reg m d v) v p refl (P.last d m m d v p0 t.some t.low)

pub of_immediate : (o : ImmediateOp) (m : Machine) (d a v : ℕ) (z : ℤ) → immediate_result o (reg m.regs a) z ≡ v → Does (i.OpImm o d a z ∷ []) m d v
of_immediate o m d a v z e w t low f h =
    let p0 = P.here d m w in
    let p = P.imm d m m o d a (reg m.regs a) v z p0 h.0 refl e (P.result d t) in
    P.ends (i.OpImm o d a z ∷ []) d m (with_reg m d v) v p refl (P.last d m m d v p0 t.some t.low)

pub of_count : (o : ShiftOp) (m : Machine) (d a c v : ℕ) → shift_result o (reg m.regs a) c ≡ v → Does (i.Shift o d a c ∷ []) m d v
of_count o m d a c v e w t low f h =
    let p0 = P.here d m w in
    let p = P.shift d m m o d a c (reg m.regs a) v p0 h.0 refl e (P.result d t) in
    P.ends (i.Shift o d a c ∷ []) d m (with_reg m d v) v p refl (P.last d m m d v p0 t.some t.low)

-- four instructions

pub scratch_some : let k : ℕ = 31 in k ≢ 0
scratch_some e = omega (arith, e)

turned : (d : ℕ) → d ≢ 31 → 31 ≢ d
turned d h e = h (sym e)

pc_4 : (n k : ℕ) → n + 4 + 4 + 4 + 4 ≡ n + 4 * 4
pc_4 n k = omega arith

-- a shift, where the last result is the shift's value
pub of_shift : (o : RegisterOp) (m : Machine) (d a b c v : ℕ) → a ≢ 31 → b ≢ 31 →
    bit_and (register_result o (reg m.regs a) (reg m.regs b)) (residue 64 (pos 0 -ℤ pos (flag (nat_lt (reg m.regs b) 64)))) ≡ v →
    Does (shift o (record { d = d; a = a; b = b; c = c; e = 0 })) m d v
of_shift o m d a b c v fa fb e w t low f h =
    let x = reg m.regs a in
    let y = reg m.regs b in
    let v1 = flag (nat_lt y 64) in
    let v2 = residue 64 (pos 0 -ℤ pos v1) in
    let v3 = register_result o x y in
    let m1 = with_reg m 31 v1 in
    let m2 = with_reg m1 31 v2 in
    let m3 = with_reg m2 d v3 in
    let p0 = P.here d m w in
    let p1 = P.imm d m m Sltiu 31 b y v1 (pos 64) p0 h.0 refl refl (P.scratch d) in
    let p2 = P.op d m m1 register.Sub 31 0 31 0 v1 v2 p1 h.1.0 refl (P.last d m m 31 v1 p0 scratch_some (omega arith)) refl (P.scratch d) in
    let ea : reg m2.regs a ≡ x = P.reg_other m1.regs 31 a v2 fa ∙ P.reg_other m.regs 31 a v1 fa in
    let eb : reg m2.regs b ≡ y = P.reg_other m1.regs 31 b v2 fb ∙ P.reg_other m.regs 31 b v1 fb in
    let p3 = P.op d m m2 o d a b x y v3 p2 h.1.1.0 ea eb refl (P.result d t) in
    let ed : reg m3.regs d ≡ v3 = P.last d m m2 d v3 p2 t.some t.low in
    let es : reg m3.regs 31 ≡ v2 = P.reg_other m2.regs d 31 v3 (turned d t.free) ∙ P.last d m m1 31 v2 p1 scratch_some (omega arith) in
    let p4 = P.op d m m3 register.And d d 31 v3 v2 v p3 h.1.1.1.0 ed es e (P.result d t) in
    P.ends (shift o (record { d = d; a = a; b = b; c = c; e = 0 })) d m (with_reg m3 d v) v p4 (pc_4 m.pc 0) (P.last d m m3 d v p3 t.some t.low)

pub of_sign_shift : (m : Machine) (d a b c v : ℕ) → a ≢ 31 → b ≢ 31 →
    register_result register.Sra (reg m.regs a) (bit_or ((flag (nat_lt (reg m.regs b) 64) + residue 64 (negsuc 0)) % 2 ^ 64) (reg m.regs b)) ≡ v →
    Does (sign_shift (record { d = d; a = a; b = b; c = c; e = 0 })) m d v
of_sign_shift m d a b c v fa fb e w t low f h =
    let x = reg m.regs a in
    let y = reg m.regs b in
    let v1 = flag (nat_lt y 64) in
    let v2 = (v1 + residue 64 (negsuc 0)) % 2 ^ 64 in
    let v3 = bit_or v2 y in
    let m1 = with_reg m 31 v1 in
    let m2 = with_reg m1 31 v2 in
    let m3 = with_reg m2 31 v3 in
    let p0 = P.here d m w in
    let p1 = P.imm d m m Sltiu 31 b y v1 (pos 64) p0 h.0 refl refl (P.scratch d) in
    let p2 = P.imm d m m1 Addi 31 31 v1 v2 (negsuc 0) p1 h.1.0 (P.last d m m 31 v1 p0 scratch_some (omega arith)) refl (P.scratch d) in
    let es : reg m2.regs 31 ≡ v2 = P.last d m m1 31 v2 p1 scratch_some (omega arith) in
    let eb : reg m2.regs b ≡ y = P.reg_other m1.regs 31 b v2 fb ∙ P.reg_other m.regs 31 b v1 fb in
    let p3 = P.op d m m2 register.Or 31 31 b v2 y v3 p2 h.1.1.0 es eb refl (P.scratch d) in
    let ea : reg m3.regs a ≡ x = P.reg_other m2.regs 31 a v3 fa ∙ P.reg_other m1.regs 31 a v2 fa ∙ P.reg_other m.regs 31 a v1 fa in
    let ec : reg m3.regs 31 ≡ v3 = P.last d m m2 31 v3 p2 scratch_some (omega arith) in
    let p4 = P.op d m m3 register.Sra d a 31 x v3 v p3 h.1.1.1.0 ea ec e (P.result d t) in
    P.ends (sign_shift (record { d = d; a = a; b = b; c = c; e = 0 })) d m (with_reg m3 d v) v p4 (pc_4 m.pc 0) (P.last d m m3 d v p3 t.some t.low)

pub of_rotation : (m : Machine) (d a b c v : ℕ) → a ≢ 31 → b ≢ 31 →
    bit_or (register_result register.Sll (reg m.regs a) (reg m.regs b)) (register_result register.Srl (reg m.regs a) (register_result register.Sub 0 (reg m.regs b))) ≡ v →
    Does (rotation (record { d = d; a = a; b = b; c = c; e = 0 })) m d v
of_rotation m d a b c v fa fb e w t low f h =
    let x = reg m.regs a in
    let y = reg m.regs b in
    let v1 = register_result register.Sub 0 y in
    let v2 = register_result register.Srl x v1 in
    let v3 = register_result register.Sll x y in
    let m1 = with_reg m 31 v1 in
    let m2 = with_reg m1 31 v2 in
    let m3 = with_reg m2 d v3 in
    let p0 = P.here d m w in
    let p1 = P.op d m m register.Sub 31 0 b 0 y v1 p0 h.0 refl refl refl (P.scratch d) in
    let ea1 : reg m1.regs a ≡ x = P.reg_other m.regs 31 a v1 fa in
    let p2 = P.op d m m1 register.Srl 31 a 31 x v1 v2 p1 h.1.0 ea1 (P.last d m m 31 v1 p0 scratch_some (omega arith)) refl (P.scratch d) in
    let ea : reg m2.regs a ≡ x = P.reg_other m1.regs 31 a v2 fa ∙ ea1 in
    let eb : reg m2.regs b ≡ y = P.reg_other m1.regs 31 b v2 fb ∙ P.reg_other m.regs 31 b v1 fb in
    let p3 = P.op d m m2 register.Sll d a b x y v3 p2 h.1.1.0 ea eb refl (P.result d t) in
    let ed : reg m3.regs d ≡ v3 = P.last d m m2 d v3 p2 t.some t.low in
    let es : reg m3.regs 31 ≡ v2 = P.reg_other m2.regs d 31 v3 (turned d t.free) ∙ P.last d m m1 31 v2 p1 scratch_some (omega arith) in
    let p4 = P.op d m m3 register.Or d d 31 v3 v2 v p3 h.1.1.1.0 ed es e (P.result d t) in
    P.ends (rotation (record { d = d; a = a; b = b; c = c; e = 0 })) d m (with_reg m3 d v) v p4 (pc_4 m.pc 0) (P.last d m m3 d v p3 t.some t.low)

-- a jump over a low pc
pub ahead : (pc k : ℕ) → pc < 2 ^ 33 → k < 2 ^ 21 → plus pc (pos k) ≡ pc + k
ahead pc k h l =
    let e : k % 2 ^ 64 ≡ k = omega arith in
    ap (λ n. (pc + n) % 2 ^ 64) e ∙ mod-eq_of_lt (omega arith)

-- the choice: by the low bit of c the first way or the second
choice_by : (t : Bool) (m : Machine) (d a b c : ℕ) → a ≢ 31 → b ≢ 31 → c ≢ 31 → (bit_and (reg m.regs c) 1 == 0) ≡ t →
    Does (choice (record { d = d; a = a; b = b; c = c; e = 0 })) m d (cond t (reg m.regs b) (reg m.regs a))
choice_by true m d a b c fa fb fc e w t low f h =
    let y = reg m.regs b in
    let v1 = bit_and (reg m.regs c) 1 in
    let m1 = with_reg m 31 v1 in
    let to : ℕ = m.pc + 4 + 4 + 4 + 4 in
    let m2 = jumped m1 to in
    let m3 = with_reg m2 31 y in
    let m4 = with_reg m3 d y in
    let p0 = P.here d m w in
    let p1 = P.imm d m m Andi 31 c (reg m.regs c) v1 (pos 1) p0 h.0 refl refl (P.scratch d) in
    let ej : plus (m.pc + 4) (pos 12) ≡ to = ahead (m.pc + 4) 12 (omega arith) (omega arith) ∙ (omega arith) in
    let p2 = P.branch d m m1 Beq 31 0 v1 0 to true (pos 12) p1 h.1.0 (P.last d m m 31 v1 p0 scratch_some (omega arith)) refl e ej in
    let eb : reg m2.regs b ≡ y = P.reg_other m.regs 31 b v1 fb in
    let ly = W.plus_none y (P.reg_word m b w) in
    let p3 = P.imm d m m2 Addi 31 b y y (pos 0) p2 h.1.1.1.1.0 eb ly (P.scratch d) in
    let p4 = P.imm d m m3 Addi d 31 y y (pos 0) p3 h.1.1.1.1.1.0 (P.last d m m2 31 y p2 scratch_some (omega arith)) ly (P.result d t) in
    P.ends (choice (record { d = d; a = a; b = b; c = c; e = 0 })) d m m4 y p4 (omega arith) (P.last d m m3 d y p3 t.some t.low)
choice_by false m d a b c fa fb fc e w t low f h =
    let x = reg m.regs a in
    let v1 = bit_and (reg m.regs c) 1 in
    let m1 = with_reg m 31 v1 in
    let m2 = jumped m1 (m.pc + 4 + 4) in
    let m3 = with_reg m2 31 x in
    let to : ℕ = m.pc + 4 + 4 + 4 + 4 + 4 in
    let m4 = jumped m3 to in
    let m5 = with_reg m4 d x in
    let p0 = P.here d m w in
    let p1 = P.imm d m m Andi 31 c (reg m.regs c) v1 (pos 1) p0 h.0 refl refl (P.scratch d) in
    let p2 = P.branch d m m1 Beq 31 0 v1 0 (m.pc + 4 + 4) false (pos 12) p1 h.1.0 (P.last d m m 31 v1 p0 scratch_some (omega arith)) refl e refl in
    let ea : reg m2.regs a ≡ x = P.reg_other m.regs 31 a v1 fa in
    let lx = W.plus_none x (P.reg_word m a w) in
    let p3 = P.imm d m m2 Addi 31 a x x (pos 0) p2 h.1.1.0 ea lx (P.scratch d) in
    let ej : plus (m.pc + 4 + 4 + 4) (pos 8) ≡ to = ahead (m.pc + 4 + 4 + 4) 8 (omega arith) (omega arith) ∙ (omega arith) in
    let p4 = P.jump d m m3 to (i.Jal 0 (pos 8)) p3 h.1.1.1.0 (ap (λ n. (None, jumped m3 n)) ej) in
    let p5 = P.imm d m m4 Addi d 31 x x (pos 0) p4 h.1.1.1.1.1.0 (P.last d m m2 31 x p2 scratch_some (omega arith)) lx (P.result d t) in
    P.ends (choice (record { d = d; a = a; b = b; c = c; e = 0 })) d m m5 x p5 (omega arith) (P.last d m m4 d x p4 t.some t.low)

pub of_choice : (m : Machine) (d a b c : ℕ) → a ≢ 31 → b ≢ 31 → c ≢ 31 →
    Does (choice (record { d = d; a = a; b = b; c = c; e = 0 })) m d (cond (reg m.regs c % 2 == 0) (reg m.regs b) (reg m.regs a))
of_choice m d a b c fa fb fc = choice_by (reg m.regs c % 2 == 0) m d a b c fa fb fc (ap (λ n. n == 0) (W.low_bit (reg m.regs c)))

-- constants and addresses

pub of_const_short : (m : Machine) (d : ℕ) (c : ℤ) → Does (i.OpImm Addi d 0 c ∷ []) m d (residue 64 c)
of_const_short m d c = of_immediate Addi m d 0 (residue 64 c) c (ap (λ n. n % 2 ^ 64) (let e : 0 + residue 64 c ≡ residue 64 c = omega arith in e) ∙ mod-eq_of_lt (residue_below 64 c))

upper_of : ℤ → ℕ
upper_of z = residue 64 (z *ℤ pos (2 ^ 12))

pub of_const_long : (m : Machine) (d : ℕ) (c : ℤ) → IsTrue (fits_signed 32 c) → Does (i.Lui d (upper c) ∷ i.Addiw d d (lower c) ∷ []) m d (residue 64 c)
of_const_long m d c k w t low f h =
    let u = residue 64 (upper c *ℤ pos (2 ^ 12)) in
    let v = residue 64 c in
    let m1 = with_reg m d u in
    let p0 = P.here d m w in
    let p1 = P.write d m m d u (i.Lui d (upper c)) p0 h.0 refl (residue_below 64 (upper c *ℤ pos (2 ^ 12))) (P.result d t) in
    let e : extended 32 (plus (reg m1.regs d) (lower c)) ≡ v = ap (λ n. extended 32 (plus n (lower c))) (P.last d m m d u p0 t.some t.low) ∙ made c k in
    let p2 = P.write d m m1 d v (i.Addiw d d (lower c)) p1 h.1.0 (ap (λ n. (None, with_reg m1 d n)) e) (residue_below 64 c) (P.result d t) in
    P.ends (i.Lui d (upper c) ∷ i.Addiw d d (lower c) ∷ []) d m (with_reg m1 d v) v p2 (omega arith) (P.last d m m1 d v p1 t.some t.low)

pub of_pool : (m : Machine) (d g v : ℕ) → g < 2 ^ 30 → v < 2 ^ 64 → load m 8 g ≡ Some v → Does (i.Lui d (upper (pos g)) ∷ i.Load Ld d d (lower (pos g)) ∷ []) m d v
of_pool m d g v lt lv l w t low f h =
    let u = residue 64 (upper (pos g) *ℤ pos (2 ^ 12)) in
    let m1 = with_reg m d u in
    let p0 = P.here d m w in
    let p1 = P.write d m m d u (i.Lui d (upper (pos g))) p0 h.0 refl (residue_below 64 (upper (pos g) *ℤ pos (2 ^ 12))) (P.result d t) in
    let e : plus (reg m1.regs d) (lower (pos g)) ≡ g = ap (λ n. plus n (lower (pos g))) (P.last d m m d u p0 t.some t.low) ∙ address g lt in
    let p2 = P.write d m m1 d v (i.Load Ld d d (lower (pos g))) p1 h.1.0
    (ap (λ n. on_load m1 n (load m1 8 n) (λ k. with_reg m1 d k)) e ∙ ap (λ o. on_load m1 g o (λ k. with_reg m1 d k)) l) lv (P.result d t) in
    P.ends (i.Lui d (upper (pos g)) ∷ i.Load Ld d d (lower (pos g)) ∷ []) d m (with_reg m1 d v) v p2 (omega arith) (P.last d m m1 d v p1 t.some t.low)

pub of_address : (m : Machine) (d g : ℕ) → g < 2 ^ 30 → Does (i.Lui d (upper (pos g)) ∷ i.OpImm Addi d d (lower (pos g)) ∷ []) m d g
of_address m d g lt w t low f h =
    let u = residue 64 (upper (pos g) *ℤ pos (2 ^ 12)) in
    let m1 = with_reg m d u in
    let p0 = P.here d m w in
    let p1 = P.write d m m d u (i.Lui d (upper (pos g))) p0 h.0 refl (residue_below 64 (upper (pos g) *ℤ pos (2 ^ 12))) (P.result d t) in
    let p2 = P.imm d m m1 Addi d d u g (lower (pos g)) p1 h.1.0 (P.last d m m d u p0 t.some t.low) (address g lt) (P.result d t) in
    P.ends (i.Lui d (upper (pos g)) ∷ i.OpImm Addi d d (lower (pos g)) ∷ []) d m (with_reg m1 d g) g p2 (omega arith) (P.last d m m1 d g p1 t.some t.low)

of_const_by : (short long : Bool) (m : Machine) (d g : ℕ) (c : ℤ) → fits_signed 32 c ≡ long → (fits_signed 32 c ≡ false → IsPooled m g (residue 64 c)) →
    Does (cond short (i.OpImm Addi d 0 c ∷ []) (cond long (i.Lui d (upper c) ∷ i.Addiw d d (lower c) ∷ []) (i.Lui d (upper (pos g)) ∷ i.Load Ld d d (lower (pos g)) ∷ []))) m d (residue 64 c)
of_const_by true long m d g c e l = of_const_short m d c
of_const_by false true m d g c e l = of_const_long m d c e
of_const_by false false m d g c e l = let p = l e in of_pool m d g (residue 64 c) p.low (residue_below 64 c) p.there

pub of_const : ConstDoes
of_const d g c m l = of_const_by (fits_signed 12 c) (fits_signed 32 c) m d g c refl l
