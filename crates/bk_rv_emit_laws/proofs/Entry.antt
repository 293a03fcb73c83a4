-- The entries of functions.
use Rattle.std.proofs.Common.{◌≡◌, ◌≢◌, ℕ, ◌+◌, ◌-◌, ◌*◌, ◌%◌, ◌^◌, ◌<◌, ◌≤◌, List, [], ◌∷◌, ◌++◌, length, ap, ◌∙◌, sym, subst, refl, arith, Some, Bool, true, false, cond, ℤ, pos, ◌-ℤ◌, ◌*ℤ◌, inl, inr, ◌⊎◌, length-append}
use Rattle.std.specs.Prelude.{neg_ℤ}
use Rattle.std.proofs.lemmas.Bool.Decides.{nat_tests}
use Rattle.std.proofs.lemmas.Int.{ints}
use Rattle.bk_num.specs.Word.{residue}
use Rattle.bk_num.specs.Bytes.{written}
use Rattle.bk_num.proofs.Bytes.{length-written, store_there}
use Rattle.bk_num.proofs.Signs.{residue_below}
use Rattle.bk_rv_isa.specs.declared.inst.ImmediateOp.TheVariants.{Addi}
use Rattle.bk_rv_isa.specs.declared.inst.RegisterOp.TheVariants.{Sub}
use Rattle.bk_rv_isa.specs.declared.inst.RegisterOp.TheVariants as register
use Rattle.bk_rv_isa.specs.declared.inst.StoreOp.TheVariants.{Sd}
use Rattle.bk_rv_isa.specs.declared.inst.BranchOp.TheVariants.{Bgeu}
use Rattle.bk_rv_isa.specs.declared.inst.Inst.{Inst}
use Rattle.bk_rv_isa.specs.declared.inst.Inst.TheVariants as i
use Rattle.bk_rv_isa.specs.Machine.{Machine, IsPlaced, HasAt, fetch, reg, plus, load, store, jumped, with_reg, with_windows, is_taken, on_store, step}
use Rattle.bk_rv_isa.proofs.Memory.{store_stack, loads_stored, loads_apart}
use Rattle.bk_rv_isa.proofs.Steps.{once, has_front, has_back}
use Rattle.bk_machine.proofs.Running.{then}
use Rattle.bk_rv_emit.specs.Blocks.{below, is_short, frame_bytes, guard, entry}
use Rattle.bk_rv_emit.specs.Words.{is_near, store_by}
use Rattle.bk_rv_emit.specs.Numbers.{upper, lower}
use Rattle.bk_rv_emit_laws.specs.Leaving.{IsWell, Path, Leaves}
use Rattle.bk_rv_emit_laws.specs.Octets.{AreBytes}
use Rattle.bk_rv_emit_laws.specs.Calls.{HasLeft, Enters, EntryEnters, EntryTraps}
use Rattle.bk_rv_emit_laws.proofs.Paths as P
use Rattle.bk_rv_emit_laws.proofs.Words.{plus_none}
use Rattle.bk_rv_emit_laws.proofs.Constants.{address}
use Rattle.bk_rv_emit_laws.proofs.Families.{ahead, scratch_some}
use Rattle.bk_rv_emit_laws.proofs.Effects.{trap_behind}
use Rattle.bk_rv_emit_laws.proofs.Slots.{same_load}
use Rattle.bk_rv_emit_laws.proofs.Below.{stores_are_bytes}
use Rattle.bk_rv_emit_laws.proofs.Far.{long_base, base_leaves, long_word}

-- what writes x31 alone writes no other register
pub weaken : (d : ℕ) (m n : Machine) → Path 31 m n → Path d m n
weaken d m n p =
    let k = p.keeps in record {
      steps = p.steps;
      goes = p.goes;
      keeps = record { well = k.well; others = λ j a b. k.others j b b; text = k.text; pool = k.pool; window = k.window; stack = k.stack; bottom = k.bottom };
    }

-- the code behind instructions that leave a number
pub behind : (is js : List Inst) (m : Machine) (d v : ℕ) (l : Leaves is m d v) → HasAt m.text m.pc (is ++ js) → HasAt l.after.text l.after.pc js
behind is js m d v l c =
    subst (λ t. HasAt t l.after.pc js) (sym l.path.keeps.text) (subst (λ p. HasAt m.text p js) (sym l.pc) (has_back is js m.text m.pc c))

pub two_scratch : let k : ℕ = 2 in k ≢ 31
two_scratch e = omega (arith, e)

-- the frame's bytes in x31
pub bytes_leave : (f : ℕ) (m : Machine) → IsWell m → f ≤ 2 ^ 20 → HasAt m.text m.pc (frame_bytes f) → Leaves (frame_bytes f) m 31 f
bytes_leave f m w most c =
    let z = upper (pos f) *ℤ pos (2 ^ 12) in
    let u = residue 64 z in
    let m1 = with_reg m 31 u in
    let p0 = P.here 31 m w in
    let p1 = P.write 31 m m 31 u (i.Lui 31 (upper (pos f))) p0 c.0 refl (residue_below 64 z) (P.scratch 31) in
    let p2 = P.imm 31 m m1 Addi 31 31 u f (lower (pos f)) p1 c.1.0 (P.last 31 m m 31 u p0 scratch_some (omega arith)) (address f (omega (arith, most))) (P.scratch 31) in
    record { after = with_reg m1 31 f; path = p2; pc = omega arith; value = P.last 31 m m1 31 f p1 scratch_some (omega arith) }

lower_place : (sp f : ℕ) → sp < 2 ^ 32 → f ≤ sp → plus sp (neg_ℤ (pos f)) ≡ sp - f
lower_place sp f h k = grind (arith, ints)

less : (sp f : ℕ) → sp < 2 ^ 32 → f ≤ sp → residue 64 (pos sp -ℤ pos f) ≡ sp - f
less sp f h k = grind (arith, ints)

-- where the stack pointer goes, in x31
below_by : (t : Bool) (f sp : ℕ) (m : Machine) → IsWell m → f ≤ 2 ^ 20 → reg m.regs 2 ≡ sp → sp < 2 ^ 32 → f ≤ sp →
    HasAt m.text m.pc (cond t (i.OpImm Addi 31 2 (neg_ℤ (pos f)) ∷ []) (frame_bytes f ++ i.Op Sub 31 2 31 ∷ [])) →
    Leaves (cond t (i.OpImm Addi 31 2 (neg_ℤ (pos f)) ∷ []) (frame_bytes f ++ i.Op Sub 31 2 31 ∷ [])) m 31 (sp - f)
below_by true f sp m w most e small high c =
    let p0 = P.here 31 m w in
    let p1 = P.imm 31 m m Addi 31 2 sp (sp - f) (neg_ℤ (pos f)) p0 c.0 e (lower_place sp f small high) (P.scratch 31) in
    record { after = with_reg m 31 (sp - f); path = p1; pc = omega arith; value = P.last 31 m m 31 (sp - f) p0 scratch_some (omega arith) }
below_by false f sp m w most e small high c =
    let js = i.Op Sub 31 2 31 ∷ [] in
    let l = bytes_leave f m w most (has_front (frame_bytes f) js m.text m.pc c) in
    let n = l.after in
    let d = behind (frame_bytes f) js m 31 f l c in
    let e2 : reg n.regs 2 ≡ sp = l.path.keeps.others 2 two_scratch two_scratch ∙ e in
    let p = P.op 31 m n Sub 31 2 31 sp f (sp - f) l.path d.0 e2 l.value (less sp f small high) (P.scratch 31) in
    let q = l.pc in
    record { after = with_reg n 31 (sp - f); path = p; pc = omega (arith, q); value = P.last 31 m n 31 (sp - f) l.path scratch_some (omega arith) }

below_leaves : (f sp : ℕ) (m : Machine) → IsWell m → f ≤ 2 ^ 20 → reg m.regs 2 ≡ sp → sp < 2 ^ 32 → f ≤ sp → HasAt m.text m.pc (below f) → Leaves (below f) m 31 (sp - f)
below_leaves f sp m w most e small high c = below_by (is_short f) f sp m w most e small high c

-- the return address in the frame's last word, by a base that is in a register
saves : (f sp left base : ℕ) (z : ℤ) (m n : Machine) → Path 2 m n → IsPlaced m → HasLeft m left → sp ≡ reg m.regs 2 → reg n.regs 2 ≡ sp - f → 8 ≤ f → f ≤ left →
    plus (reg n.regs base) z ≡ sp - 8 → HasAt n.text n.pc (i.Store Sd 1 base z ∷ []) → n.pc + 4 ≡ m.pc + 4 * length (entry f) → Enters f m
saves f sp left base z m n p pl l es e2 low high at h pc =
    let ra = reg m.regs 1 in
    let k = p.keeps in
    let e1 : reg n.regs 1 ≡ ra = k.others 1 (λ e. omega (arith, e)) (λ e. omega (arith, e)) in
    let a : ℕ = sp - 8 in
    let p1 = pl.pool in
    let p2 = pl.window in
    let l1 = l.pointer in
    let l2 = l.inside in
    let l3 = l.small in
    let kb = k.bottom in
    let kp = ap length k.pool in
    let kw = ap length k.window in
    let ks = ap length k.stack in
    let b : ra < 2 ^ 64 = subst (λ x. x < 2 ^ 64) e1 (P.reg_word n 1 k.well) in
    let placed : IsPlaced n = record { pool = omega (arith, kp, p1); window = omega (arith, kw, kb, p2) } in
    let there : n.bottom ≤ a = omega (arith, kb, es, l1, low, high) in
    let inside : a + 8 ≤ n.bottom + length n.stack = omega (arith, kb, ks, es, l1, l2, low, high) in
    let stack = written n.bottom n.stack 8 a ra in
    let w : store n 8 a ra ≡ Some (n.window, stack) = store_stack n 8 a ra placed there (omega arith) inside in
    let after = with_windows n n.window stack in
    record {
      after = after;
      steps = p.steps + 1;
      goes = then step p.steps 1 m n after p.goes
          (once n after (i.Store Sd 1 base z) h.0
          (ap (λ x. on_store n x (store n 8 x (reg n.regs 1))) at ∙ ap (λ x. on_store n a (store n 8 a x)) e1 ∙ ap (on_store n a) w));
      pc = pc;
      well = record { count = k.well.count; words = k.well.words };
      pointer = omega (arith, e2, es, l1, high);
      saved = ap (λ x. load after 8 (x - 8)) (sym es) ∙ loads_stored n 8 a ra n.window stack placed (omega arith) (omega (arith, b)) w;
      others = k.others;
      apart = λ width x q. loads_apart n 8 width a x ra n.window stack (beside width x q) w ∙ same_load 2 m n width x k;
      text = k.text;
      pool = k.pool;
      window = k.window;
      bottom = k.bottom;
      long = length-written n.bottom 8 a ra n.stack there inside ∙ ks;
      bytes = λ q. stores_are_bytes n.bottom 8 a ra n.stack stack (subst AreBytes (sym k.stack) q) (store_there n.bottom 8 a ra n.stack there inside);
    }
  where
    beside : (width x : ℕ) → (x + width ≤ reg m.regs 2 - 8) ⊎ (reg m.regs 2 ≤ x) → (x + width ≤ sp - 8) ⊎ (sp - 8 + 8 ≤ x)
    beside width x (inl q) = inl (omega (arith, q, es))
    beside width x (inr q) = let l1 = l.pointer in inr (omega (arith, q, es, l1, low, high))

-- near and far
saves_by : (t : Bool) (f sp left : ℕ) (m n : Machine) → Path 2 m n → IsPlaced m → HasLeft m left → sp ≡ reg m.regs 2 → reg n.regs 2 ≡ sp - f → 8 ≤ f → f ≤ left → f ≤ 2 ^ 20 →
    HasAt n.text n.pc (cond t (i.Store Sd 1 2 (pos (f - 8)) ∷ []) (i.Lui 31 (upper (pos (f - 8))) ∷ i.Op register.Add 31 31 2 ∷ i.Store Sd 1 31 (lower (pos (f - 8))) ∷ [])) →
    n.pc + 4 * cond t 1 3 ≡ m.pc + 4 * length (entry f) → Enters f m
unfolding long_base
saves_by true f sp left m n p pl l es e2 low high most h pc =
    let l1 = l.pointer in
    let l2 = l.inside in
    let l3 = l.small in
    let at : plus (reg n.regs 2) (pos (f - 8)) ≡ sp - 8 =
    ap (λ x. plus x (pos (f - 8))) e2 ∙ ahead (sp - f) (f - 8) (omega (arith, es, l1, l2, l3)) (omega (arith, most)) ∙ (omega (arith, es, l1, low, high)) in
    saves f sp left 2 (pos (f - 8)) m n p pl l es e2 low high at h (omega (arith, pc))
saves_by false f sp left m n p pl l es e2 low high most h pc =
    let o : ℕ = f - 8 in
    let l1 = l.pointer in
    let l2 = l.inside in
    let l3 = l.small in
    let js = i.Store Sd 1 31 (lower (pos o)) ∷ [] in
    let b = base_leaves 31 o n p.keeps.well (P.scratch 31) two_scratch (h.0, (h.1.0, tt)) in
    let n1 = b.0.after in
    let q = b.0.pc in
    let at : plus (reg n1.regs 31) (lower (pos o)) ≡ sp - 8 =
    ap (λ x. plus x (lower (pos o))) (b.0.value ∙ ap (λ x. (residue 64 (upper (pos o) *ℤ pos (2 ^ 12)) + x) % 2 ^ 64) e2)
    ∙ long_word (sp - f) o (omega (arith, es, l1, l2, l3, most)) (omega (arith, most))
    ∙ (omega (arith, es, l1, low, high)) in
    saves f sp left 31 (lower (pos o)) m n1 (P.join 2 m n n1 p (weaken 2 n n1 b.0.path)) pl l es (b.1 2 two_scratch ∙ e2) low high at
    (behind (long_base 31 o) js n 31 _ b.0 h) (omega (arith, pc, q))

reaches_yes : (x y : ℕ) → y ≤ x → is_taken Bgeu x y ≡ true
reaches_yes x y h = grind (arith, nat_tests)

reaches_no : (x y : ℕ) → x < y → is_taken Bgeu x y ≡ false
reaches_no x y h = grind (arith, nat_tests)

-- the guard lets pass what is not below the bound
passes : (x b : ℕ) (m : Machine) → IsWell m → m.pc < 2 ^ 33 → reg m.regs 31 ≡ x → reg m.regs 27 ≡ b → b ≤ x → HasAt m.text m.pc guard → Leaves guard m 2 x
passes x b m w small e31 e27 h c =
    let to : ℕ = m.pc + 12 in
    let m2 = jumped m to in
    let lt : x < 2 ^ 64 = subst (λ v. v < 2 ^ 64) e31 (P.reg_word m 31 w) in
    let p0 = P.here 2 m w in
    let p2 = P.branch 2 m m Bgeu 31 27 x b to true (pos 12) p0 c.0 e31 e27 (reaches_yes x b h) (ahead m.pc 12 small (omega arith)) in
    let t2 : P.IsTarget 2 2 = record { some = λ e. omega (arith, e); low = omega arith; is = inl refl } in
    let d = subst (λ q. fetch m.text q ≡ Some (i.OpImm Addi 2 31 (pos 0))) (let q : m.pc + 4 + 4 + 4 ≡ m.pc + 12 = omega arith in q) c.1.1.1.0 in
    let p3 = P.imm 2 m m2 Addi 2 31 x x (pos 0) p2 d e31 (plus_none x lt) t2 in
    record { after = with_reg m2 2 x; path = p3; pc = omega arith; value = P.last 2 m m2 2 x p2 t2.some t2.low }

one_of : {A B : Type 0} (f : A → B) (t : Bool) (a b : A) → f (cond t a b) ≡ cond t (f a) (f b)
one_of f true a b = refl
one_of f false a b = refl

pub entry_enters : EntryEnters
entry_enters f left m w pl l low most small h high =
    let sp = reg m.regs 2 in
    let bound = l.bound in
    let pointer = l.pointer in
    let l2 = l.inside in
    let l3 = l.small in
    let last = store_by 31 1 (f - 8) in
    let a = below_leaves f sp m w most refl (omega (arith, pointer, l2, l3)) (omega (arith, pointer, high)) (has_front (below f) (guard ++ last) m.text m.pc h) in
    let n = a.after in
    let d = behind (below f) (guard ++ last) m 31 (sp - f) a h in
    let e27 : reg n.regs 27 ≡ m.bottom = a.path.keeps.others 27 (λ e. omega (arith, e)) (λ e. omega (arith, e)) ∙ bound in
    let short : length (below f) ≤ 3 = short_below (is_short f) f in
    let pa = a.pc in
    let g = passes (sp - f) m.bottom n a.path.keeps.well (omega (arith, pa, short, small)) a.value e27 (omega (arith, pointer, high)) (has_front guard last n.text n.pc d) in
    let pg = g.pc in
    let e = behind guard last n 2 (sp - f) g d in
    let long = length-append (below f) (guard ++ last) in
    let size : length last ≡ cond (is_near (f - 8)) 1 3 = one_of length (is_near (f - 8)) _ _ in
    saves_by (is_near (f - 8)) f sp left m g.after (P.join 2 m n g.after (weaken 2 m n a.path) g.path) pl l refl g.value low high most e (omega (arith, pa, pg, long, size))
  where
    short_below : (t : Bool) (f : ℕ) → length (cond t (i.OpImm Addi 31 2 (neg_ℤ (pos f)) ∷ []) (frame_bytes f ++ i.Op Sub 31 2 31 ∷ [])) ≤ 3
    short_below true f = omega arith
    short_below false f = omega arith

pub entry_traps : EntryTraps
entry_traps f left m w pl l most h high =
    let sp = reg m.regs 2 in
    let bound = l.bound in
    let pointer = l.pointer in
    let l2 = l.inside in
    let l3 = l.small in
    let placed = pl.window in
    let last = store_by 31 1 (f - 8) in
    let a = below_leaves f sp m w most refl (omega (arith, pointer, l2, l3)) (omega (arith, pointer, placed, most)) (has_front (below f) (guard ++ last) m.text m.pc h) in
    let n = a.after in
    let d = behind (below f) (guard ++ last) m 31 (sp - f) a h in
    let e27 : reg n.regs 27 ≡ m.bottom = a.path.keeps.others 27 (λ e. omega (arith, e)) (λ e. omega (arith, e)) ∙ bound in
    let taken : is_taken Bgeu (sp - f) m.bottom ≡ false = reaches_no (sp - f) m.bottom (omega (arith, pointer, high, most, placed)) in
    let p = P.branch 31 m n Bgeu 31 27 (sp - f) m.bottom (n.pc + 4) false (pos 12) a.path d.0 a.value e27 taken refl in
    trap_behind 5 m (jumped n (n.pc + 4)) p (omega arith) (omega arith) (d.1.0, (d.1.1.0, tt))
