-- The way of a unit, instruction by instruction.
use Rattle.std.proofs.Common.{◌≡◌, ◌≢◌, ℕ, zero, suc, ◌+◌, ◌*◌, ◌^◌, ◌<◌, ◌≤◌, List, length, ap, ◌∙◌, sym, subst, refl, arith, Some, None, Bool, false, cond, ℤ, inl, inr, ◌⊎◌}
use Rattle.std.specs.Prelude.{slice_index, slice_set, ◌==◌}
use Rattle.std.proofs.lemmas.List.{length-set}
use Rattle.std.proofs.lemmas.Bool.Decides.{nat_tests}
use Rattle.std.proofs.lemmas.Nat.{pow_pos}
use Rattle.std.proofs.Math.Nat.{mod-lt}
use Rattle.bk_num.specs.Word.{residue}
use Rattle.bk_rv_isa.specs.declared.inst.RegisterOp.{RegisterOp}
use Rattle.bk_rv_isa.specs.declared.inst.ImmediateOp.{ImmediateOp}
use Rattle.bk_rv_isa.specs.declared.inst.ShiftOp.{ShiftOp}
use Rattle.bk_rv_isa.specs.declared.inst.BranchOp.{BranchOp}
use Rattle.bk_rv_isa.specs.declared.inst.Inst.{Inst}
use Rattle.bk_rv_isa.specs.declared.inst.Inst.TheVariants.{Op, OpImm, Shift, Branch}
use Rattle.bk_rv_isa.specs.Machine.{Machine, reg, put, plus, fetch, jumped, with_reg, register_result, immediate_result, shift_result, is_taken, act, step}
use Rattle.bk_rv_isa.proofs.Steps.{once, same_reg, other_reg}
use Rattle.bk_rv_emit_laws.specs.Leaving.{IsWell, Path, Leaves}
use Rattle.bk_rv_emit_laws.specs.Does.{IsPlace}
use Rattle.bk_machine.proofs.Running.{then, stay}
use Rattle.bk_rv_emit_laws.proofs.Results.{result_below, immediate_below, shift_below}

-- registers

not_zero : (k : ℕ) → (suc k == 0) ≡ false
not_zero k = grind (arith, nat_tests)

pub reg_suc : (regs : List ℕ) (k : ℕ) → reg regs (suc k) ≡ slice_index regs (suc k)
reg_suc regs k = ap (λ b. cond b 0 (slice_index regs (suc k))) (not_zero k)

pub put_suc : (regs : List ℕ) (k v : ℕ) → put regs (suc k) v ≡ slice_set regs (suc k) v
put_suc regs k v = ap (λ b. cond b regs (slice_set regs (suc k) v)) (not_zero k)

pub reg_same : (regs : List ℕ) (k v : ℕ) → k ≢ 0 → k < length regs → reg (put regs k v) k ≡ v
reg_same regs zero v z h = absurd (z refl)
reg_same regs (suc k) v z h = ap (λ r. reg r (suc k)) (put_suc regs k v) ∙ reg_suc (slice_set regs (suc k) v) k ∙ same_reg regs (suc k) v h

pub reg_other : (regs : List ℕ) (k j v : ℕ) → j ≢ k → reg (put regs k v) j ≡ reg regs j
reg_other regs zero j v h = refl
reg_other regs (suc k) zero v h = refl
reg_other regs (suc k) (suc j) v h =
    ap (λ r. reg r (suc j)) (put_suc regs k v) ∙ reg_suc (slice_set regs (suc k) v) j ∙ other_reg regs (suc k) (suc j) v h ∙ sym (reg_suc regs j)

pub reg_word : (m : Machine) (k : ℕ) → IsWell m → reg m.regs k < 2 ^ 64
reg_word m zero w = omega arith
reg_word m (suc k) w = subst (λ n. n < 2 ^ 64) (sym (reg_suc m.regs k)) (w.words (suc k))

pub same_or_not : (j k : ℕ) → (j ≡ k) ⊎ (j ≢ k)
same_or_not zero zero = inl refl
same_or_not zero (suc k) = inr (λ e. omega (arith, e))
same_or_not (suc j) zero = inr (λ e. omega (arith, e))
same_or_not (suc j) (suc k) = elim (same_or_not j k) [ inl e ↦ inl (ap suc e) | inr n ↦ inr (λ e. n (omega (arith, e))) ]

set_word : (regs : List ℕ) (k v j : ℕ) → k < length regs → v < 2 ^ 64 → slice_index regs j < 2 ^ 64 → slice_index (slice_set regs k v) j < 2 ^ 64
set_word regs k v j l h w = elim (same_or_not j k) [
  | inl e ↦ subst (λ i. slice_index (slice_set regs k v) i < 2 ^ 64) (sym e) (subst (λ n. n < 2 ^ 64) (sym (same_reg regs k v l)) h)
  | inr n ↦ subst (λ i. i < 2 ^ 64) (sym (other_reg regs k j v n)) w
]

pub well_put : (m : Machine) (k v : ℕ) → IsWell m → k < 32 → v < 2 ^ 64 → IsWell (with_reg m k v)
well_put m zero v w l h = record { count = w.count; words = w.words }
well_put m (suc k) v w l h =
    let e = put_suc m.regs k v in record {
      count = ap length e ∙ length-set m.regs (suc k) v ∙ w.count;
      words = λ j. subst (λ r. slice_index r j < 2 ^ 64) (sym e) (set_word m.regs (suc k) v j (let c = w.count in omega arith) h (w.words j));
    }

-- paths

pub record IsTarget (d k : ℕ) : Type 0 where
  pub some : k ≢ 0
  pub low : k < 32
  pub is : (k ≡ d) ⊎ (k ≡ 31)

pub scratch : (d : ℕ) → IsTarget d 31
scratch d = record { some = λ e. omega (arith, e); low = omega arith; is = inr refl }

pub result : (d : ℕ) → IsPlace d → IsTarget d d
result d p = record { some = p.some; low = p.low; is = inl refl }

pub here : (d : ℕ) (m : Machine) → IsWell m → Path d m m
here d m w = record {
  steps = 0;
  goes = stay step m;
  keeps = record { well = w; others = λ k a b. refl; text = refl; pool = refl; window = refl; stack = refl; bottom = refl };
}

not_target : (d k j : ℕ) → IsTarget d k → j ≢ d → j ≢ 31 → j ≢ k
not_target d k j t a b e = elim (t.is) [ inl f ↦ a (e ∙ f) | inr f ↦ b (e ∙ f) ]

pub write : (d : ℕ) (m n : Machine) (k v : ℕ) (i : Inst) → Path d m n → fetch n.text n.pc ≡ Some i → act i n ≡ (None, with_reg n k v) → v < 2 ^ 64 → IsTarget d k → Path d m (with_reg n k v)
write d m n k v i p h e b t =
    let c = p.keeps in record {
      steps = p.steps + 1;
      goes = then step p.steps 1 m n (with_reg n k v) p.goes (once n (with_reg n k v) i h e);
      keeps = record {
        well = well_put n k v c.well t.low b;
        others = λ j x y. reg_other n.regs k j v (not_target d k j t x y) ∙ c.others j x y;
        text = c.text;
        pool = c.pool;
        window = c.window;
        stack = c.stack;
        bottom = c.bottom;
      };
    }

pub jump : (d : ℕ) (m n : Machine) (pc : ℕ) (i : Inst) → Path d m n → fetch n.text n.pc ≡ Some i → act i n ≡ (None, jumped n pc) → Path d m (jumped n pc)
jump d m n pc i p h e =
    let c = p.keeps in record {
      steps = p.steps + 1;
      goes = then step p.steps 1 m n (jumped n pc) p.goes (once n (jumped n pc) i h e);
      keeps = record {
        well = record { count = c.well.count; words = c.well.words };
        others = c.others;
        text = c.text;
        pool = c.pool;
        window = c.window;
        stack = c.stack;
        bottom = c.bottom;
      };
    }

pub op : (d : ℕ) (m n : Machine) (o : RegisterOp) (k a b x y v : ℕ) → Path d m n → fetch n.text n.pc ≡ Some (Op o k a b) → reg n.regs a ≡ x → reg n.regs b ≡ y → register_result o x y ≡ v → IsTarget d k → Path d m (with_reg n k v)
op d m n o k a b x y v p h ea eb e t =
    let f : register_result o (reg n.regs a) (reg n.regs b) ≡ v = ap (λ i. register_result o i (reg n.regs b)) ea ∙ ap (λ i. register_result o x i) eb ∙ e in
    let l : register_result o (reg n.regs a) (reg n.regs b) < 2 ^ 64 = result_below o (reg n.regs a) (reg n.regs b) (reg_word n a p.keeps.well) (reg_word n b p.keeps.well) in
    write d m n k v (Op o k a b) p h (ap (λ i. (None, with_reg n k i)) f) (subst (λ i. i < 2 ^ 64) f l) t

pub imm : (d : ℕ) (m n : Machine) (o : ImmediateOp) (k a x v : ℕ) (z : ℤ) → Path d m n → fetch n.text n.pc ≡ Some (OpImm o k a z) → reg n.regs a ≡ x → immediate_result o x z ≡ v → IsTarget d k → Path d m (with_reg n k v)
imm d m n o k a x v z p h ea e t =
    let f : immediate_result o (reg n.regs a) z ≡ v = ap (λ i. immediate_result o i z) ea ∙ e in
    let l : immediate_result o (reg n.regs a) z < 2 ^ 64 = immediate_below o (reg n.regs a) z (reg_word n a p.keeps.well) in
    write d m n k v (OpImm o k a z) p h (ap (λ i. (None, with_reg n k i)) f) (subst (λ i. i < 2 ^ 64) f l) t

pub shift : (d : ℕ) (m n : Machine) (o : ShiftOp) (k a c x v : ℕ) → Path d m n → fetch n.text n.pc ≡ Some (Shift o k a c) → reg n.regs a ≡ x → shift_result o x c ≡ v → IsTarget d k → Path d m (with_reg n k v)
shift d m n o k a c x v p h ea e t =
    let f : shift_result o (reg n.regs a) c ≡ v = ap (λ i. shift_result o i c) ea ∙ e in
    write d m n k v (Shift o k a c) p h (ap (λ i. (None, with_reg n k i)) f) (subst (λ i. i < 2 ^ 64) f (shift_below o (reg n.regs a) c)) t

pub branch : (d : ℕ) (m n : Machine) (o : BranchOp) (a b x y pc : ℕ) (t : Bool) (z : ℤ) → Path d m n → fetch n.text n.pc ≡ Some (Branch o a b z) → reg n.regs a ≡ x → reg n.regs b ≡ y → is_taken o x y ≡ t → cond t (plus n.pc z) (n.pc + 4) ≡ pc → Path d m (jumped n pc)
branch d m n o a b x y pc t z p h ea eb e f =
    let g : is_taken o (reg n.regs a) (reg n.regs b) ≡ t = ap (λ i. is_taken o i (reg n.regs b)) ea ∙ ap (λ i. is_taken o x i) eb ∙ e in
    jump d m n pc (Branch o a b z) p h (ap (λ s. (None, jumped n (cond s (plus n.pc z) (n.pc + 4)))) g ∙ ap (λ i. (None, jumped n i)) f)

-- the end of a unit
pub ends : (is : List Inst) (d : ℕ) (m n : Machine) (v : ℕ) → Path d m n → n.pc ≡ m.pc + 4 * length is → reg n.regs d ≡ v → Leaves is m d v
ends is d m n v p e h = record { after = n; path = p; pc = e; value = h }

-- what was written last is there
pub last : (d : ℕ) (m n : Machine) (k v : ℕ) → Path d m n → k ≢ 0 → k < 32 → reg (put n.regs k v) k ≡ v
last d m n k v p z l = reg_same n.regs k v z (let c = p.keeps.well.count in omega arith)

pub plus_below : (n : ℕ) (z : ℤ) → plus n z < 2 ^ 64
plus_below n z = mod-lt (n + residue 64 z) (pow_pos 64)

-- a jump that writes a register too
pub write_jump : (d : ℕ) (m n : Machine) (k v pc : ℕ) (i : Inst) → Path d m n → fetch n.text n.pc ≡ Some i → act i n ≡ (None, jumped (with_reg n k v) pc) → v < 2 ^ 64 → IsTarget d k → Path d m (jumped (with_reg n k v) pc)
write_jump d m n k v pc i p h e b t =
    let c = p.keeps in
    let w = well_put n k v c.well t.low b in record {
      steps = p.steps + 1;
      goes = then step p.steps 1 m n (jumped (with_reg n k v) pc) p.goes (once n (jumped (with_reg n k v) pc) i h e);
      keeps = record {
        well = record { count = w.count; words = w.words };
        others = λ j x y. reg_other n.regs k j v (not_target d k j t x y) ∙ c.others j x y;
        text = c.text;
        pool = c.pool;
        window = c.window;
        stack = c.stack;
        bottom = c.bottom;
      };
    }

-- each instruction is a step

pub write_some : (d : ℕ) (m n : Machine) (k v : ℕ) (i : Inst) (p : Path d m n) (h : fetch n.text n.pc ≡ Some i) (e : act i n ≡ (None, with_reg n k v)) (b : v < 2 ^ 64) (t : IsTarget d k) → 1 ≤ (write d m n k v i p h e b t).steps
unfolding write
write_some d m n k v i p h e b t = omega arith

pub jump_some : (d : ℕ) (m n : Machine) (pc : ℕ) (i : Inst) (p : Path d m n) (h : fetch n.text n.pc ≡ Some i) (e : act i n ≡ (None, jumped n pc)) → 1 ≤ (jump d m n pc i p h e).steps
unfolding jump
jump_some d m n pc i p h e = omega arith

-- ways one behind the other
pub join : (d : ℕ) (m n o : Machine) → Path d m n → Path d n o → Path d m o
join d m n o p q =
    let a = p.keeps in
    let b = q.keeps in record {
      steps = p.steps + q.steps;
      goes = then step p.steps q.steps m n o p.goes q.goes;
      keeps = record {
        well = b.well;
        others = λ k x y. b.others k x y ∙ a.others k x y;
        text = b.text ∙ a.text;
        pool = b.pool ∙ a.pool;
        window = b.window ∙ a.window;
        stack = b.stack ∙ a.stack;
        bottom = b.bottom ∙ a.bottom;
      };
    }

pub branch_some : (d : ℕ) (m n : Machine) (o : BranchOp) (a b x y pc : ℕ) (t : Bool) (z : ℤ) (p : Path d m n) (h : fetch n.text n.pc ≡ Some (Branch o a b z)) (ea : reg n.regs a ≡ x) (eb : reg n.regs b ≡ y) (e : is_taken o x y ≡ t) (f : cond t (plus n.pc z) (n.pc + 4) ≡ pc) → 1 ≤ (branch d m n o a b x y pc t z p h ea eb e f).steps
unfolding branch jump
branch_some d m n o a b x y pc t z p h ea eb e f = omega arith

pub imm_some : (d : ℕ) (m n : Machine) (o : ImmediateOp) (k a x v : ℕ) (z : ℤ) (p : Path d m n) (h : fetch n.text n.pc ≡ Some (OpImm o k a z)) (ea : reg n.regs a ≡ x) (e : immediate_result o x z ≡ v) (t : IsTarget d k) → 1 ≤ (imm d m n o k a x v z p h ea e t).steps
unfolding imm write
imm_some d m n o k a x v z p h ea e t = omega arith

pub join_some : (d : ℕ) (m n o : Machine) (p : Path d m n) (q : Path d n o) → 1 ≤ p.steps → 1 ≤ (join d m n o p q).steps
unfolding join
join_some d m n o p q h = omega arith
