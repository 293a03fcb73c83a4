-- Jumps, branches and calls.
use Rattle.std.proofs.Common.{◌≡◌, ℕ, ◌+◌, ◌-◌, ◌*◌, ◌/◌, ◌%◌, ◌^◌, ◌<◌, ◌≤◌, List, [], ◌∷◌, length, ap, ◌∙◌, sym, subst, refl, arith, Some, None, Bool, true, false, cond, not, ℤ, pos, ◌-ℤ◌, ◌*ℤ◌, inl}
use Rattle.std.specs.Prelude.{◌==◌}
use Rattle.std.proofs.lemmas.Int.{ints}
use Rattle.bk_num.specs.Word.{residue, signed}
use Rattle.bk_rv_isa.specs.declared.inst.BranchOp.{BranchOp}
use Rattle.bk_rv_isa.specs.declared.inst.BranchOp.TheVariants.{Beq, Bne}
use Rattle.bk_rv_isa.specs.declared.inst.Inst.{Inst}
use Rattle.bk_rv_isa.specs.declared.inst.Inst.TheVariants as i
use Rattle.bk_rv_isa.specs.Machine.{Machine, HasAt, reg, plus, fetch, jumped, with_reg, is_taken}
use Rattle.bk_ops.proofs.Order.{not_not}
use Rattle.bk_fixup.specs.Patches as patches
use Rattle.bk_emit.specs.Code.{distance}
use Rattle.bk_rv_emit.specs.Numbers.{upper, lower}
use Rattle.bk_rv_emit.specs.Written.{branch_on, branch_form}
use Rattle.bk_rv_emit_laws.specs.Leaving.{IsWell, Path}
use Rattle.bk_rv_emit_laws.specs.Jumps.{Arrives, AreNear, address, is_so, JumpGoes, BranchGoes}
use Rattle.bk_rv_emit_laws.specs.Calls.{Calls, CallCalls}
use Rattle.bk_rv_emit_laws.proofs.Paths as P
use Rattle.bk_rv_emit_laws.proofs.Families.{ahead, scratch_some}
use Rattle.bk_rv_emit_laws.proofs.Constants.{far}

-- distances

-- an offset from a place, as a word
near : (k at to : ℕ) → k + at < 2 ^ 26 → k + to < 2 ^ 26 → plus (address (k + at)) (distance at to) ≡ address (k + to)
near k at to h l = grind (arith, ints)

near_behind : (k at to : ℕ) → k + at < 2 ^ 26 → k + to < 2 ^ 26 → plus (address (k + at) + 4) (distance at to -ℤ pos 4) ≡ address (k + to)
near_behind k at to h l = grind (arith, ints)

low_distance : (k at to : ℕ) → k + at < 2 ^ 26 → k + to < 2 ^ 26 → residue 32 (distance at to) ≡ (address (k + to) + 2 ^ 32 - address (k + at)) % 2 ^ 32
low_distance k at to h l = grind (arith, ints)

low_behind : (k at to : ℕ) → k + at < 2 ^ 26 → k + to < 2 ^ 26 → residue 32 (distance at to -ℤ pos 4) ≡ (address (k + to) + 2 ^ 32 - (address (k + at) + 4)) % 2 ^ 32
low_behind k at to h l = grind (arith, ints)

-- forms

short_jump : (d : ℤ) (m n : Machine) (pc : ℕ) → Path 31 m n → fetch n.text n.pc ≡ Some (i.Jal 0 d) → plus n.pc d ≡ pc → Arrives m pc
short_jump d m n pc p h e =
    let f = ap (λ k. (None, jumped n k)) e in
    record { after = jumped n pc; path = P.jump 31 m n pc (i.Jal 0 d) p h f; pc = refl; some = P.jump_some 31 m n pc (i.Jal 0 d) p h f }

pub even : (n : ℕ) → n % 2 ≡ 0 → n / 2 * 2 ≡ n
even n h = omega arith

long_jump : (m n : Machine) (pc k : ℕ) → Path 31 m n → HasAt n.text n.pc (i.Auipc 31 (signed 20 ((k + 2048) / 2 ^ 12)) ∷ i.Jalr 0 31 (signed 12 k) ∷ []) →
    plus (plus n.pc (signed 20 ((k + 2048) / 2 ^ 12) *ℤ pos (2 ^ 12))) (signed 12 k) ≡ pc → pc % 2 ≡ 0 → Arrives m pc
long_jump m n pc k p h e v =
    let x = plus n.pc (signed 20 ((k + 2048) / 2 ^ 12) *ℤ pos (2 ^ 12)) in
    let n1 = with_reg n 31 x in
    let p1 = P.write 31 m n 31 x (i.Auipc 31 (signed 20 ((k + 2048) / 2 ^ 12))) p h.0 refl (P.plus_below n.pc (signed 20 ((k + 2048) / 2 ^ 12) *ℤ pos (2 ^ 12))) (P.scratch 31) in
    let f : plus (reg n1.regs 31) (signed 12 k) / 2 * 2 ≡ pc = ap (λ y. plus y (signed 12 k) / 2 * 2) (P.last 31 m n 31 x p scratch_some (omega arith)) ∙ ap (λ y. y / 2 * 2) e ∙ even pc v in
    let q = ap (λ y. (None, jumped n1 y)) f in
    record { after = jumped n1 pc; path = P.jump 31 m n1 pc (i.Jalr 0 31 (signed 12 k)) p1 h.1.0 q; pc = refl; some = P.jump_some 31 m n1 pc (i.Jalr 0 31 (signed 12 k)) p1 h.1.0 q }

even_address : (to : ℕ) → address to % 2 ≡ 0
even_address to = omega arith

low_address : (to : ℕ) → to < 2 ^ 26 → address to < 2 ^ 29
low_address to h = omega arith

jump_by : (t : Bool) (start at to : ℕ) (m : Machine) → IsWell m → AreNear start at to → m.pc ≡ address (start + at) →
    HasAt m.text m.pc (cond t (i.Jal 0 (distance at to) ∷ []) (i.Auipc 31 (upper (distance at to)) ∷ i.Jalr 0 31 (lower (distance at to)) ∷ [])) → Arrives m (address (start + to))
jump_by true start at to m w n e h = short_jump (distance at to) m m (address (start + to)) (P.here 31 m w) h.0 (ap (λ k. plus k (distance at to)) e ∙ near start at to n.0 n.1)
jump_by false start at to m w n e h =
    let k = residue 32 (distance at to) in
    long_jump m m (address (start + to)) k (P.here 31 m w) h
    (ap (λ p. plus (plus p (signed 20 ((k + 2048) / 2 ^ 12) *ℤ pos (2 ^ 12))) (signed 12 k)) e
    ∙ far (address (start + at)) (address (start + to)) k (low_address (start + at) n.0) (low_address (start + to) n.1) (low_distance start at to n.0 n.1)) (even_address (start + to))

pub jump_goes : JumpGoes
jump_goes size start at to m w n e h = jump_by (size == 1) start at to m w n e h

-- the op of a branch
op_of : Bool → BranchOp
op_of bit = cond bit Bne Beq

taken_is : (bit : Bool) (x : ℕ) → is_taken (cond bit Bne Beq) x 0 ≡ is_so bit x
taken_is true x = refl
taken_is false x = refl

turned_taken : (bit : Bool) (x : ℕ) → is_so (not bit) x ≡ not (is_so bit x)
turned_taken true x = sym (not_not (x == 0))
turned_taken false x = refl

-- a branch of one word
branch_one : (bit t : Bool) (start at to : ℕ) (m : Machine) → IsWell m → AreNear start at to → m.pc ≡ address (start + at) → is_so bit (reg m.regs 31) ≡ t →
    HasAt m.text m.pc (branch_on bit (distance at to) ∷ []) → Arrives m (cond t (address (start + to)) (m.pc + 4))
branch_one bit t start at to m w n e f h =
    let o = cond bit Bne Beq in
    let z = distance at to in
    let g : plus m.pc z ≡ address (start + to) = ap (λ k. plus k z) e ∙ near start at to n.0 n.1 in
    let pc = cond t (address (start + to)) (m.pc + 4) in
    let u = taken_is bit (reg m.regs 31) ∙ f in
    record {
      after = jumped m pc;
      path = P.branch 31 m m o 31 0 (reg m.regs 31) 0 pc t z (P.here 31 m w) h.0 refl refl u (ap (λ k. cond t k (m.pc + 4)) g);
      pc = refl;
      some = P.branch_some 31 m m o 31 0 (reg m.regs 31) 0 pc t z (P.here 31 m w) h.0 refl refl u (ap (λ k. cond t k (m.pc + 4)) g);
    }

-- the opposite branch over a jump, which is made where the branch is taken
record Over (t : Bool) (k : ℕ) (m : Machine) : Type 0 where
  after : Machine
  path : Path 31 m after
  pc : after.pc ≡ cond t (m.pc + 4) (m.pc + k)
  text : after.text ≡ m.text
  some : 1 ≤ path.steps

over_jump : (bit t : Bool) (k : ℕ) (m : Machine) → IsWell m → m.pc < 2 ^ 32 → k < 64 → is_so bit (reg m.regs 31) ≡ t →
    fetch m.text m.pc ≡ Some (branch_on (not bit) (pos k)) → Over t k m
over_jump bit t k m w l b f h =
    let o = cond (not bit) Bne Beq in
    let g : is_taken o (reg m.regs 31) 0 ≡ not t = taken_is (not bit) (reg m.regs 31) ∙ turned_taken bit (reg m.regs 31) ∙ ap not f in
    let pc = cond (not t) (m.pc + k) (m.pc + 4) in
    record {
      after = jumped m pc;
      path = P.branch 31 m m o 31 0 (reg m.regs 31) 0 pc (not t) (pos k) (P.here 31 m w) h refl refl g (ap (λ x. cond (not t) x (m.pc + 4)) (ahead m.pc k (omega arith) (omega arith)));
      pc = flipped t (m.pc + k) (m.pc + 4);
      text = refl;
      some = P.branch_some 31 m m o 31 0 (reg m.regs 31) 0 pc (not t) (pos k) (P.here 31 m w) h refl refl g (ap (λ x. cond (not t) x (m.pc + 4)) (ahead m.pc k (omega arith) (omega arith)));
    }
  where
    flipped : (t : Bool) (x y : ℕ) → cond (not t) x y ≡ cond t y x
    flipped true x y = refl
    flipped false x y = refl

arrived : (m : Machine) (to pc : ℕ) → to ≡ pc → Arrives m to → Arrives m pc
arrived m to pc e a = record { after = a.after; path = a.path; pc = a.pc ∙ e; some = a.some }

-- the opposite branch over a short jump
branch_two : (bit t : Bool) (start at to : ℕ) (m : Machine) → IsWell m → AreNear start at to → m.pc ≡ address (start + at) → is_so bit (reg m.regs 31) ≡ t →
    HasAt m.text m.pc (branch_on (not bit) (pos 8) ∷ i.Jal 0 (distance at to -ℤ pos 4) ∷ []) → Arrives m (cond t (address (start + to)) (m.pc + 8))
branch_two bit true start at to m w n e f h =
    let a = n.0 in
    let x = over_jump bit true 8 m w (omega (arith, e, a)) (omega arith) f h.0 in
    let c : fetch x.after.text x.after.pc ≡ Some (i.Jal 0 (distance at to -ℤ pos 4)) =
    ap (λ k. fetch x.after.text k) x.pc ∙ ap (λ k. fetch k (m.pc + 4)) x.text ∙ h.1.0 in
    short_jump (distance at to -ℤ pos 4) m x.after (address (start + to)) x.path c
    (ap (λ k. plus k (distance at to -ℤ pos 4)) (x.pc ∙ ap (λ k. k + 4) e) ∙ near_behind start at to n.0 n.1)
branch_two bit false start at to m w n e f h =
    let a = n.0 in
    let x = over_jump bit false 8 m w (omega (arith, e, a)) (omega arith) f h.0 in
    record { after = x.after; path = x.path; pc = x.pc; some = x.some }

-- the opposite branch over a long jump
branch_three : (bit t : Bool) (start at to : ℕ) (m : Machine) → IsWell m → AreNear start at to → m.pc ≡ address (start + at) → is_so bit (reg m.regs 31) ≡ t →
    HasAt m.text m.pc (branch_on (not bit) (pos 12) ∷ i.Auipc 31 (upper (distance at to -ℤ pos 4)) ∷ i.Jalr 0 31 (lower (distance at to -ℤ pos 4)) ∷ []) → Arrives m (cond t (address (start + to)) (m.pc + 12))
branch_three bit true start at to m w n e f h =
    let a = n.0 in
    let k = residue 32 (distance at to -ℤ pos 4) in
    let is = i.Auipc 31 (signed 20 ((k + 2048) / 2 ^ 12)) ∷ i.Jalr 0 31 (signed 12 k) ∷ [] in
    let x = over_jump bit true 12 m w (omega (arith, e, a)) (omega arith) f h.0 in
    let c : HasAt x.after.text x.after.pc is = subst (λ p. HasAt x.after.text p is) (sym x.pc) (subst (λ q. HasAt q (m.pc + 4) is) (sym x.text) h.1) in
    long_jump m x.after (address (start + to)) k x.path c
    (ap (λ p. plus (plus p (signed 20 ((k + 2048) / 2 ^ 12) *ℤ pos (2 ^ 12))) (signed 12 k)) (x.pc ∙ ap (λ p. p + 4) e)
    ∙ far (address (start + at) + 4) (address (start + to)) k (omega (arith, a)) (low_address (start + to) n.1) (low_behind start at to n.0 n.1)) (even_address (start + to))
branch_three bit false start at to m w n e f h =
    let a = n.0 in
    let x = over_jump bit false 12 m w (omega (arith, e, a)) (omega arith) f h.0 in
    record { after = x.after; path = x.path; pc = x.pc; some = x.some }

branch_by : (bit one two : Bool) (start at to : ℕ) (m : Machine) → IsWell m → AreNear start at to → m.pc ≡ address (start + at) →
    (is : List Inst) → is ≡ cond one (branch_on bit (distance at to) ∷ []) (cond two (branch_on (not bit) (pos 8) ∷ i.Jal 0 (distance at to -ℤ pos 4) ∷ [])
    (branch_on (not bit) (pos 12) ∷ i.Auipc 31 (upper (distance at to -ℤ pos 4)) ∷ i.Jalr 0 31 (lower (distance at to -ℤ pos 4)) ∷ [])) →
    HasAt m.text m.pc is → Arrives m (cond (is_so bit (reg m.regs 31)) (address (start + to)) (m.pc + 4 * length is))
branch_by bit true two start at to m w n e is q h =
    arrived m _ _ (ap (λ l. cond (is_so bit (reg m.regs 31)) (address (start + to)) (m.pc + 4 * length l)) (sym q))
    (branch_one bit (is_so bit (reg m.regs 31)) start at to m w n e refl (subst (HasAt m.text m.pc) q h))
branch_by bit false true start at to m w n e is q h =
    arrived m _ _ (ap (λ l. cond (is_so bit (reg m.regs 31)) (address (start + to)) (m.pc + 4 * length l)) (sym q))
    (branch_two bit (is_so bit (reg m.regs 31)) start at to m w n e refl (subst (HasAt m.text m.pc) q h))
branch_by bit false false start at to m w n e is q h =
    arrived m _ _ (ap (λ l. cond (is_so bit (reg m.regs 31)) (address (start + to)) (m.pc + 4 * length l)) (sym q))
    (branch_three bit (is_so bit (reg m.regs 31)) start at to m w n e refl (subst (HasAt m.text m.pc) q h))

pub branch_goes : BranchGoes
branch_goes bit size start at to m w n e h = branch_by bit (size == 1) (size == 2) start at to m w n e (branch_form bit size (distance at to)) refl h

-- calls

called : (to n : ℕ) (m : Machine) → IsWell m → m.pc < 2 ^ 29 → to < 2 ^ 29 → to % 2 ≡ 0 → n ≡ patches.distance m.pc to →
    HasAt m.text m.pc (i.Auipc 31 (signed 20 ((n + 2048) / 2 ^ 12)) ∷ i.Jalr 1 31 (signed 12 n) ∷ []) → Calls m to
called to n m w p t v e h =
    let z = signed 20 ((n + 2048) / 2 ^ 12) *ℤ pos (2 ^ 12) in
    let x = plus m.pc z in
    let m1 = with_reg m 31 x in
    let back : ℕ = m.pc + 4 + 4 in
    let m2 = with_reg m1 1 back in
    let p0 = P.here 1 m w in
    let t1 : P.IsTarget 1 1 = record { some = λ q. omega (arith, q); low = omega arith; is = inl refl } in
    let p1 = P.write 1 m m 31 x (i.Auipc 31 (signed 20 ((n + 2048) / 2 ^ 12))) p0 h.0 refl (P.plus_below m.pc z) (P.scratch 1) in
    let f : plus (reg m1.regs 31) (signed 12 n) / 2 * 2 ≡ to =
    ap (λ y. plus y (signed 12 n) / 2 * 2) (P.last 1 m m 31 x p0 scratch_some (omega arith)) ∙ ap (λ y. y / 2 * 2) (far m.pc to n p t e) ∙ even to v in
    record {
      after = jumped m2 to;
      path = P.write_jump 1 m m1 1 back to (i.Jalr 1 31 (signed 12 n)) p1 h.1.0 (ap (λ y. (None, jumped m2 y)) f) (omega arith) t1;
      pc = refl;
      back = P.last 1 m m1 1 back p1 (λ q. omega (arith, q)) (omega arith) ∙ (omega arith);
    }

whole : (n : ℕ) → n < 2 ^ 32 → n % 2 ^ 32 ≡ n
whole n h = omega arith

pub call_calls : CallCalls
call_calls to m w p t v h =
    let n = patches.distance m.pc to in
    called to n m w p t v refl
    (subst (λ k. HasAt m.text m.pc (i.Auipc 31 (signed 20 ((k + 2048) / 2 ^ 12)) ∷ i.Jalr 1 31 (signed 12 k) ∷ [])) (whole n (omega arith)) h)
