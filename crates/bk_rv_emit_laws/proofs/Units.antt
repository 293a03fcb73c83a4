-- The law of a unit, op by op.
use Rattle.std.proofs.Common.{◌≡◌, ◌≢◌, ℕ, ◌+◌, ◌/◌, ◌%◌, ◌^◌, List, [], ◌∷◌, ap, ◌∙◌, sym, subst, refl, Some, None, ℤ, pos, nat_lt}
use Rattle.std.specs.Prelude.{map, ◌&&◌}
use Rattle.bk_num.specs.Word.{residue}
use Rattle.bk_ops.specs.declared.family.RvOp.{RvOp}
use Rattle.bk_ops.specs.declared.family.RvOp.TheVariants as rv
use Rattle.bk_ops.specs.Formulas.{of_one, of_two, of_three, rv_formula}
use Rattle.bk_ops.specs.Values.{valued}
use Rattle.bk_rv_isa.specs.declared.inst.RegisterOp.TheVariants as register
use Rattle.bk_rv_isa.specs.declared.inst.ImmediateOp.TheVariants.{Addi, Sltiu, Xori, Ori, Andi}
use Rattle.bk_rv_isa.specs.declared.inst.ShiftOp.{ShiftOp}
use Rattle.bk_rv_isa.specs.declared.inst.ShiftOp.TheVariants.{Slli, Srli, Srai}
use Rattle.bk_rv_isa.specs.declared.inst.Inst.{Inst}
use Rattle.bk_rv_isa.specs.declared.inst.Inst.TheVariants as i
use Rattle.bk_rv_isa.specs.Machine.{Machine, reg, shift_result}
use Rattle.bk_rv_isa.proofs.Rows.{both}
use Rattle.bk_emit.specs.Blocks.{reg_at}
use Rattle.bk_rv_emit.specs.Units.{register_op, named, single, several, choice}
use Rattle.bk_rv_emit.specs.Numbers.{capped}
use Rattle.bk_rv_emit_laws.specs.Leaving.{IsWell}
use Rattle.bk_rv_emit_laws.specs.Does.{AreFree, Does, UnitDoes}
use Rattle.bk_rv_emit_laws.proofs.Paths.{reg_word}
use Rattle.bk_rv_emit_laws.proofs.Words as W
use Rattle.bk_rv_emit_laws.proofs.Families as F

some_is : (a b : ℕ) → Some a ≡ Some b → a ≡ b
some_is a b h = cc

none_is_not : (v : ℕ) (A : Type 0) → None ≡ Some v → A
none_is_not v A h = absurd cc

-- units of ops with one argument, with two and with three, at the words themselves
one : (f : ℕ → ℕ) (is : ℕ → List Inst) (m : Machine) (d v : ℕ) (args : List ℕ) → AreFree args →
    ((a : ℕ) → a ≢ 31 → (u : ℕ) → IsWell m → f (reg m.regs a) ≡ u → Does (is a) m d u) →
    valued (of_one 64 f) (map (reg m.regs) args) ≡ Some v → Does (is (reg_at args 0)) m d v
one f is m d v [] free unit e = none_is_not v _ e
one f is m d v (a ∷ []) free unit e = λ w.
    unit a free.0 v w (ap f (sym (W.kept (reg m.regs a) (reg_word m a w))) ∙ some_is _ v e) w
one f is m d v (a ∷ b ∷ args) free unit e = none_is_not v _ e

two : (f : ℕ → ℕ → ℕ) (is : ℕ → ℕ → List Inst) (m : Machine) (d v : ℕ) (args : List ℕ) → AreFree args →
    ((a b : ℕ) → a ≢ 31 → b ≢ 31 → (u : ℕ) → IsWell m → f (reg m.regs a) (reg m.regs b) ≡ u → Does (is a b) m d u) →
    valued (of_two 64 64 f) (map (reg m.regs) args) ≡ Some v → Does (is (reg_at args 0) (reg_at args 1)) m d v
two f is m d v [] free unit e = none_is_not v _ e
two f is m d v (a ∷ []) free unit e = none_is_not v _ e
two f is m d v (a ∷ b ∷ []) free unit e = λ w.
    unit a b free.0 free.1.0 v w
    (ap (λ n. f n (reg m.regs b)) (sym (W.kept (reg m.regs a) (reg_word m a w)))
    ∙ ap (λ n. f (reg m.regs a % 2 ^ 64) n) (sym (W.kept (reg m.regs b) (reg_word m b w)))
    ∙ some_is _ v e) w
two f is m d v (a ∷ b ∷ c ∷ args) free unit e = none_is_not v _ e

three : (f : ℕ → ℕ → ℕ → ℕ) (is : ℕ → ℕ → ℕ → List Inst) (m : Machine) (d v : ℕ) (args : List ℕ) → AreFree args →
    ((a b c : ℕ) → a ≢ 31 → b ≢ 31 → c ≢ 31 → (u : ℕ) → IsWell m → f (reg m.regs a) (reg m.regs b) (reg m.regs c % 2) ≡ u → Does (is a b c) m d u) →
    valued (of_three 64 64 1 f) (map (reg m.regs) args) ≡ Some v → Does (is (reg_at args 0) (reg_at args 1) (reg_at args 2)) m d v
three f is m d v [] free unit e = none_is_not v _ e
three f is m d v (a ∷ []) free unit e = none_is_not v _ e
three f is m d v (a ∷ b ∷ []) free unit e = none_is_not v _ e
three f is m d v (a ∷ b ∷ c ∷ []) free unit e = λ w.
    unit a b c free.0 free.1.0 free.1.1.0 v w
    (ap (λ n. f n (reg m.regs b) (reg m.regs c % 2)) (sym (W.kept (reg m.regs a) (reg_word m a w)))
    ∙ ap (λ n. f (reg m.regs a % 2 ^ 64) n (reg m.regs c % 2)) (sym (W.kept (reg m.regs b) (reg_word m b w)))
    ∙ some_is _ v e) w
three f is m d v (a ∷ b ∷ c ∷ x ∷ args) free unit e = none_is_not v _ e

-- a shift by a count that its instruction holds
counted : (o : ShiftOp) (m : Machine) (d a u : ℕ) (c : ℤ) → shift_result o (reg m.regs a) (residue 64 c) ≡ u → Does (i.Shift o d a (capped 64 c) ∷ []) m d u
counted o m d a u c e w t low f h =
    let k = both (nat_lt a 32) (nat_lt (capped 64 c) 64) (both (nat_lt d 32) (nat_lt a 32 && nat_lt (capped 64 c) 64) f.0).1 in
    F.of_count o m d a (capped 64 c) u (ap (λ n. shift_result o (reg m.regs a) n) (W.count_is c k.1) ∙ e) w t low f h

pub unit_does : (o : RvOp) → UnitDoes o
unfolding single named register_op several rv_formula
unit_does rv.Const w d args c m v free off e = absurd (off refl)
unit_does rv.Addr w d args c m v free off e = none_is_not v _ e
unit_does rv.Add w d args c m v free off e = two (λ x y. (x + y) % 2 ^ 64) (λ a b. i.Op register.Add d a b ∷ []) m d v args free (λ a b fa fb u l q. F.of_registers register.Add m d a b u q) e
unit_does rv.Sub w d args c m v free off e = two _ (λ a b. i.Op register.Sub d a b ∷ []) m d v args free (λ a b fa fb u l q. F.of_registers register.Sub m d a b u (W.sub_is (reg m.regs a) (reg m.regs b) (reg_word m a l) (reg_word m b l) ∙ q)) e
unit_does rv.Mul w d args c m v free off e = two _ (λ a b. i.Op register.Mul d a b ∷ []) m d v args free (λ a b fa fb u l q. F.of_registers register.Mul m d a b u q) e
unit_does rv.And w d args c m v free off e = two _ (λ a b. i.Op register.And d a b ∷ []) m d v args free (λ a b fa fb u l q. F.of_registers register.And m d a b u q) e
unit_does rv.Or w d args c m v free off e = two _ (λ a b. i.Op register.Or d a b ∷ []) m d v args free (λ a b fa fb u l q. F.of_registers register.Or m d a b u q) e
unit_does rv.Xor w d args c m v free off e = two _ (λ a b. i.Op register.Xor d a b ∷ []) m d v args free (λ a b fa fb u l q. F.of_registers register.Xor m d a b u q) e
unit_does rv.Mulh w d args c m v free off e = two _ (λ a b. i.Op register.Mulh d a b ∷ []) m d v args free (λ a b fa fb u l q. F.of_registers register.Mulh m d a b u q) e
unit_does rv.Mulhu w d args c m v free off e = two _ (λ a b. i.Op register.Mulhu d a b ∷ []) m d v args free (λ a b fa fb u l q. F.of_registers register.Mulhu m d a b u q) e
unit_does rv.Div w d args c m v free off e = two _ (λ a b. i.Op register.Div d a b ∷ []) m d v args free (λ a b fa fb u l q. F.of_registers register.Div m d a b u (W.div_is (reg m.regs a) (reg m.regs b) (reg_word m b l) ∙ q)) e
unit_does rv.Divu w d args c m v free off e = two _ (λ a b. i.Op register.Divu d a b ∷ []) m d v args free (λ a b fa fb u l q. F.of_registers register.Divu m d a b u (W.divu_is (reg m.regs a) (reg m.regs b) (reg_word m a l) (reg_word m b l) ∙ q)) e
unit_does rv.Rem w d args c m v free off e = two _ (λ a b. i.Op register.Rem d a b ∷ []) m d v args free (λ a b fa fb u l q. F.of_registers register.Rem m d a b u (W.rem_is (reg m.regs a) (reg m.regs b) (reg_word m a l) (reg_word m b l) ∙ q)) e
unit_does rv.Remu w d args c m v free off e = two _ (λ a b. i.Op register.Remu d a b ∷ []) m d v args free (λ a b fa fb u l q. F.of_registers register.Remu m d a b u (W.remu_is (reg m.regs a) (reg m.regs b) (reg_word m a l) (reg_word m b l) ∙ q)) e
unit_does rv.Slt w d args c m v free off e = two _ (λ a b. i.Op register.Slt d a b ∷ []) m d v args free (λ a b fa fb u l q. F.of_registers register.Slt m d a b u q) e
unit_does rv.Sltu w d args c m v free off e = two _ (λ a b. i.Op register.Sltu d a b ∷ []) m d v args free (λ a b fa fb u l q. F.of_registers register.Sltu m d a b u q) e
unit_does rv.Lsl w d args c m v free off e = two _ _ m d v args free (λ a b fa fb u l q. F.of_shift register.Sll m d a b (reg_at args 2) u fa fb (W.shl_is (reg m.regs a) (reg m.regs b) ∙ q)) e
unit_does rv.Lsr w d args c m v free off e = two _ _ m d v args free (λ a b fa fb u l q. F.of_shift register.Srl m d a b (reg_at args 2) u fa fb (W.shr_is (reg m.regs a) (reg m.regs b) (reg_word m a l) ∙ q)) e
unit_does rv.Asr w d args c m v free off e = two _ _ m d v args free (λ a b fa fb u l q. F.of_sign_shift m d a b (reg_at args 2) u fa fb (W.sar_is (reg m.regs a) (reg m.regs b) (reg_word m b l) ∙ q)) e
unit_does rv.Rotl w d args c m v free off e = two _ _ m d v args free (λ a b fa fb u l q. F.of_rotation m d a b (reg_at args 2) u fa fb (W.rot_is (reg m.regs a) (reg m.regs b) (reg_word m a l) (reg_word m b l) ∙ q)) e
unit_does rv.Neg w d args c m v free off e = one _ (λ a. i.Op register.Sub d 0 a ∷ []) m d v args free (λ a fa u l q. F.of_registers register.Sub m d 0 a u (W.neg_is (reg m.regs a) (reg_word m a l) ∙ q)) e
unit_does rv.Seqz w d args c m v free off e = one _ (λ a. i.OpImm Sltiu d a (pos 1) ∷ []) m d v args free (λ a fa u l q. F.of_immediate Sltiu m d a u (pos 1) (W.seqz_is (reg m.regs a) ∙ q)) e
unit_does rv.Snez w d args c m v free off e = one _ (λ a. i.Op register.Sltu d 0 a ∷ []) m d v args free (λ a fa u l q. F.of_registers register.Sltu m d 0 a u (W.snez_is (reg m.regs a) ∙ q)) e
unit_does rv.Sel w d args c m v free off e = three _ (λ a b z. choice (record { d = d; a = a; b = b; c = z; e = 0 })) m d v args free (λ a b z fa fb fz u l q. subst (λ n. Does (choice (record { d = d; a = a; b = b; c = z; e = 0 })) m d n) q (F.of_choice m d a b z fa fb fz)) e
unit_does rv.Addi w d args c m v free off e = one _ (λ a. i.OpImm Addi d a c ∷ []) m d v args free (λ a fa u l q. F.of_immediate Addi m d a u c q) e
unit_does rv.Andi w d args c m v free off e = one _ (λ a. i.OpImm Andi d a c ∷ []) m d v args free (λ a fa u l q. F.of_immediate Andi m d a u c q) e
unit_does rv.Ori w d args c m v free off e = one _ (λ a. i.OpImm Ori d a c ∷ []) m d v args free (λ a fa u l q. F.of_immediate Ori m d a u c q) e
unit_does rv.Xori w d args c m v free off e = one _ (λ a. i.OpImm Xori d a c ∷ []) m d v args free (λ a fa u l q. F.of_immediate Xori m d a u c q) e
unit_does rv.Slli w d args c m v free off e = one _ (λ a. i.Shift Slli d a (capped 64 c) ∷ []) m d v args free (λ a fa u l q. counted Slli m d a u c q) e
unit_does rv.Srli w d args c m v free off e = one _ (λ a. i.Shift Srli d a (capped 64 c) ∷ []) m d v args free (λ a fa u l q. counted Srli m d a u c (ap (λ n. n / 2 ^ residue 64 c) (W.kept (reg m.regs a) (reg_word m a l)) ∙ q)) e
unit_does rv.Srai w d args c m v free off e = one _ (λ a. i.Shift Srai d a (capped 64 c) ∷ []) m d v args free (λ a fa u l q. counted Srai m d a u c q) e
unit_does rv.Load w d args c m v free off e = none_is_not v _ e
unit_does rv.Store w d args c m v free off e = none_is_not v _ e
unit_does rv.StoreB w d args c m v free off e = none_is_not v _ e
unit_does rv.Zero w d args c m v free off e = none_is_not v _ e
unit_does rv.Move w d args c m v free off e = none_is_not v _ e
unit_does rv.Nil w d args c m v free off e = none_is_not v _ e
