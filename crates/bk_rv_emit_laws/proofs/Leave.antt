-- The endings of functions.
use Rattle.std.proofs.Common.{◌≡◌, ℕ, ◌+◌, ◌-◌, ◌*◌, ◌/◌, ◌%◌, ◌^◌, ◌<◌, ◌≤◌, [], ◌∷◌, ◌++◌, ap, ◌∙◌, sym, refl, arith, Some, None, Bool, true, false, cond, pos, ◌*ℤ◌, inl}
use Rattle.std.proofs.Math.Nat.{mod-eq_of_lt}
use Rattle.bk_num.specs.Word.{residue}
use Rattle.bk_rv_isa.specs.declared.inst.ImmediateOp.TheVariants.{Addi}
use Rattle.bk_rv_isa.specs.declared.inst.RegisterOp.TheVariants.{Add}
use Rattle.bk_rv_isa.specs.declared.inst.LoadOp.TheVariants.{Ld}
use Rattle.bk_rv_isa.specs.declared.inst.Inst.TheVariants as i
use Rattle.bk_rv_isa.specs.Machine.{Machine, HasAt, reg, plus, load, jumped, with_reg, on_load, step}
use Rattle.bk_rv_isa.proofs.Steps.{has_front}
use Rattle.bk_machine.proofs.Running.{then}
use Rattle.bk_rv_emit.specs.Blocks.{above, is_short, frame_bytes}
use Rattle.bk_rv_emit.specs.Words.{is_near, load_by}
use Rattle.bk_rv_emit.specs.Numbers.{upper, lower}
use Rattle.bk_rv_emit_laws.specs.Leaving.{IsWell, Leaves}
use Rattle.bk_rv_emit_laws.specs.Calls.{LeaveReturns}
use Rattle.bk_rv_emit_laws.proofs.Paths as P
use Rattle.bk_rv_emit_laws.proofs.Words.{plus_none}
use Rattle.bk_rv_emit_laws.proofs.Families.{ahead}
use Rattle.bk_rv_emit_laws.proofs.Slots.{same_load}
use Rattle.bk_rv_emit_laws.proofs.Far.{long_base, base_leaves, long_word}
use Rattle.bk_rv_emit_laws.proofs.Entry.{weaken, behind, two_scratch, bytes_leave}
use Rattle.bk_rv_emit_laws.proofs.Turns.{even}

one_target : P.IsTarget 1 1
one_target = record { some = λ e. omega (arith, e); low = omega arith; is = inl refl }

two_target : P.IsTarget 2 2
two_target = record { some = λ e. omega (arith, e); low = omega arith; is = inl refl }

-- the return address, near and far
back_by : (t : Bool) (sp o v : ℕ) (m : Machine) → IsWell m → reg m.regs 2 ≡ sp → sp + o < 2 ^ 32 → o < 2 ^ 21 → load m 8 (sp + o) ≡ Some v → v < 2 ^ 64 →
    HasAt m.text m.pc (cond t (i.Load Ld 1 2 (pos o) ∷ []) (i.Lui 31 (upper (pos o)) ∷ i.Op Add 31 31 2 ∷ i.Load Ld 1 31 (lower (pos o)) ∷ [])) →
    Leaves (cond t (i.Load Ld 1 2 (pos o) ∷ []) (i.Lui 31 (upper (pos o)) ∷ i.Op Add 31 31 2 ∷ i.Load Ld 1 31 (lower (pos o)) ∷ [])) m 1 v
unfolding long_base
back_by true sp o v m w e2 small near l lt c =
    let at : plus (reg m.regs 2) (pos o) ≡ sp + o = ap (λ x. plus x (pos o)) e2 ∙ ahead sp o (omega (arith, small)) near in
    let e = ap (λ a. on_load m a (load m 8 a) (λ k. with_reg m 1 k)) at ∙ ap (λ x. on_load m (sp + o) x (λ k. with_reg m 1 k)) l in
    let p0 = P.here 1 m w in
    record { after = with_reg m 1 v; path = P.write 1 m m 1 v (i.Load Ld 1 2 (pos o)) p0 c.0 e lt one_target; pc = omega arith; value = P.last 1 m m 1 v p0 one_target.some one_target.low }
back_by false sp o v m w e2 small near l lt c =
    let js = i.Load Ld 1 31 (lower (pos o)) ∷ [] in
    let b = base_leaves 31 o m w (P.scratch 31) two_scratch (c.0, (c.1.0, tt)) in
    let n = b.0.after in
    let q = b.0.pc in
    let d = behind (long_base 31 o) js m 31 _ b.0 c in
    let at : plus (reg n.regs 31) (lower (pos o)) ≡ sp + o =
    ap (λ x. plus x (lower (pos o))) (b.0.value ∙ ap (λ x. (residue 64 (upper (pos o) *ℤ pos (2 ^ 12)) + x) % 2 ^ 64) e2)
    ∙ long_word sp o small (omega (arith, near)) in
    let e = ap (λ a. on_load n a (load n 8 a) (λ k. with_reg n 1 k)) at ∙ ap (λ x. on_load n (sp + o) x (λ k. with_reg n 1 k)) (same_load 31 m n 8 (sp + o) b.0.path.keeps ∙ l) in
    let p1 = weaken 1 m n b.0.path in
    record {
      after = with_reg n 1 v;
      path = P.write 1 m n 1 v (i.Load Ld 1 31 (lower (pos o))) p1 d.0 e lt one_target;
      pc = omega (arith, q);
      value = P.last 1 m n 1 v p1 one_target.some one_target.low;
    }

-- the frame is given back
above_by : (t : Bool) (f sp : ℕ) (m : Machine) → IsWell m → f ≤ 2 ^ 20 → reg m.regs 2 ≡ sp → sp + f < 2 ^ 32 →
    HasAt m.text m.pc (cond t (i.OpImm Addi 2 2 (pos f) ∷ []) (frame_bytes f ++ i.Op Add 2 2 31 ∷ [])) →
    Leaves (cond t (i.OpImm Addi 2 2 (pos f) ∷ []) (frame_bytes f ++ i.Op Add 2 2 31 ∷ [])) m 2 (sp + f)
above_by true f sp m w most e small c =
    let p0 = P.here 2 m w in
    let p1 = P.imm 2 m m Addi 2 2 sp (sp + f) (pos f) p0 c.0 e (ahead sp f (omega (arith, small)) (omega (arith, most))) two_target in
    record { after = with_reg m 2 (sp + f); path = p1; pc = omega arith; value = P.last 2 m m 2 (sp + f) p0 two_target.some two_target.low }
above_by false f sp m w most e small c =
    let js = i.Op Add 2 2 31 ∷ [] in
    let l = bytes_leave f m w most (has_front (frame_bytes f) js m.text m.pc c) in
    let n = l.after in
    let d = behind (frame_bytes f) js m 31 f l c in
    let e2 : reg n.regs 2 ≡ sp = l.path.keeps.others 2 two_scratch two_scratch ∙ e in
    let p1 = weaken 2 m n l.path in
    let p = P.op 2 m n Add 2 2 31 sp f (sp + f) p1 d.0 e2 l.value (mod-eq_of_lt (omega (arith, small))) two_target in
    let q = l.pc in
    record { after = with_reg n 2 (sp + f); path = p; pc = omega (arith, q); value = P.last 2 m n 2 (sp + f) p1 two_target.some two_target.low }

some_steps : (a b : ℕ) → 1 ≤ b → 1 ≤ a + b
some_steps a b h = omega (arith, h)

pub leave_returns : LeaveReturns
leave_returns f back m w low most small lt ev l h =
    let sp = reg m.regs 2 in
    let o : ℕ = f - 8 in
    let at : sp + f - 8 ≡ sp + o = omega (arith, low) in
    let rest = above f ++ i.Jalr 0 1 (pos 0) ∷ [] in
    let jump = i.Jalr 0 1 (pos 0) ∷ [] in
    let fit : back < 2 ^ 64 = omega (arith, lt) in
    let a = back_by (is_near o) sp o back m w refl (omega (arith, small)) (omega (arith, most)) (ap (load m 8) (sym at) ∙ l) fit (has_front (load_by 31 1 o) rest m.text m.pc h) in
    let n = a.after in
    let d = behind (load_by 31 1 o) rest m 1 back a h in
    let p = a.path in
    let e2 : reg n.regs 2 ≡ sp = p.keeps.others 2 (λ e. omega (arith, e)) two_scratch in
    let b = above_by (is_short f) f sp n p.keeps.well most e2 small (has_front (above f) jump n.text n.pc d) in
    let n2 = b.after in
    let c = behind (above f) jump n 2 (sp + f) b d in
    let q = b.path in
    let e1 : reg n2.regs 1 ≡ back = q.keeps.others 1 (λ e. omega (arith, e)) (λ e. omega (arith, e)) ∙ a.value in
    let ej : plus (reg n2.regs 1) (pos 0) / 2 * 2 ≡ back = ap (λ y. plus y (pos 0) / 2 * 2) e1 ∙ ap (λ y. y / 2 * 2) (plus_none back fit) ∙ even back ev in
    let ja = ap (λ y. (None, jumped n2 y)) ej in
    let r = P.jump 2 n n2 back (i.Jalr 0 1 (pos 0)) q c.0 ja in
    let k = r.keeps in
    record {
      after = jumped n2 back;
      steps = p.steps + r.steps;
      some = some_steps p.steps r.steps (P.jump_some 2 n n2 back (i.Jalr 0 1 (pos 0)) q c.0 ja);
      goes = then step p.steps r.steps m n (jumped n2 back) p.goes r.goes;
      pc = refl;
      well = k.well;
      pointer = b.value;
      others = λ j x y z. k.others j y z ∙ p.keeps.others j x z;
      same = λ width x. same_load 2 n (jumped n2 back) width x k ∙ same_load 1 m n width x p.keeps;
      text = k.text ∙ p.keeps.text;
      pool = k.pool ∙ p.keeps.pool;
      window = k.window ∙ p.keeps.window;
      stack = k.stack ∙ p.keeps.stack;
      bottom = k.bottom ∙ p.keeps.bottom;
    }
