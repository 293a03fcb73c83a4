-- Steps on the places of a frame.
use Rattle.std.proofs.Common.{◌≡◌, ◌≢◌, ℕ, ◌+◌, ◌*◌, ◌%◌, ◌^◌, ◌<◌, ◌≤◌, List, [], ◌∷◌, ◌++◌, length, ap, ◌∙◌, sym, subst, refl, arith, Some, Bool, true, false, cond, ℤ, pos, inl, inr, ◌⊎◌, length-append}
use Rattle.std.specs.Prelude.{◌==◌}
use Rattle.std.proofs.lemmas.Bool.{cases_lt}
use Rattle.std.proofs.lemmas.Bool.Decides.{nat_tests}
use Rattle.std.proofs.Math.Nat.{mod-eq_of_lt}
use Rattle.bk_num.specs.Bytes.{written}
use Rattle.bk_num.proofs.Bytes.{length-written}
use Rattle.bk_rv_isa.specs.declared.inst.ImmediateOp.TheVariants.{Addi}
use Rattle.bk_rv_isa.specs.declared.inst.LoadOp.TheVariants.{Ld}
use Rattle.bk_rv_isa.specs.declared.inst.StoreOp.TheVariants.{Sd}
use Rattle.bk_rv_isa.specs.declared.inst.Inst.{Inst}
use Rattle.bk_rv_isa.specs.declared.inst.Inst.TheVariants as i
use Rattle.bk_rv_isa.specs.Machine.{Machine, HasAt, reg, plus, load, store, with_reg, with_windows, on_load, on_store, step}
use Rattle.bk_num.specs.Memory.{read}
use Rattle.bk_rv_isa.proofs.Memory.{store_stack, placed_windows, loads_stored, loads_apart}
use Rattle.bk_emit.specs.declared.blocks.Frame.{Frame}
use Rattle.bk_emit.specs.declared.blocks.Spot.{Spot}
use Rattle.bk_emit.specs.declared.blocks.Spot.TheVariants.{Register, Word}
use Rattle.bk_rv_emit_laws.specs.Leaving.{IsWell, Keeps, Leaves}
use Rattle.bk_rv_emit_laws.specs.Frames.{IsHome, IsFrame, Holds, Leads, Spares, set, word_address}
use Rattle.bk_rv_emit_laws.specs.Steps.{Makes, ValueMakes}
use Rattle.bk_machine.proofs.Running.{then}
use Rattle.bk_rv_emit_laws.proofs.Paths as P
use Rattle.bk_rv_emit_laws.proofs.Words.{plus_none}
use Rattle.bk_rv_isa.proofs.Steps.{once}

same_is : (r : ℕ) → (r == r) ≡ true
same_is r = grind (arith, nat_tests)

other_is : (r d : ℕ) → r ≢ d → (r == d) ≡ false
other_is r d h = grind (arith, nat_tests)

-- memory after a way that writes registers alone
pub same_load : (d : ℕ) (m n : Machine) (width a : ℕ) → Keeps d m n → load n width a ≡ load m width a
same_load d m n width a k =
    ap (λ p. read p n.window n.bottom n.stack width a) k.pool
    ∙ ap (λ w. read m.pool w n.bottom n.stack width a) k.window
    ∙ ap (λ b. read m.pool m.window b n.stack width a) k.bottom
    ∙ ap (λ s. read m.pool m.window m.bottom s width a) k.stack

pub same_frame : (f : Frame) (sp d : ℕ) (m n : Machine) → d ≢ 2 → IsFrame f sp m → Keeps d m n → IsFrame f sp n
same_frame f sp d m n h g k =
    let p = g.placed in
    let pl = ap length k.pool in
    let wl = ap length k.window in
    let sl = ap length k.stack in
    let b = k.bottom in
    let p1 = p.pool in
    let p2 = p.window in
    let g1 = g.low in
    let g2 = g.high in
    record {
      placed = record { pool = omega (arith, pl, p1); window = omega (arith, wl, b, p2) };
      well = k.well;
      pointer = k.others 2 (λ e. h (sym e)) (λ e. omega (arith, e)) ∙ g.pointer;
      low = omega (arith, b, g1);
      high = omega (arith, sl, b, g2);
      room = g.room;
      small = g.small;
      text = subst (λ x. length x < 2 ^ 26) (sym k.text) g.text;
    }

same_spares : (f : Frame) (sp d : ℕ) (m n : Machine) → d ≢ 27 → Keeps d m n → Spares f sp m n
same_spares f sp d m n j k = record {
  text = k.text;
  pool = k.pool;
  window = k.window;
  bottom = k.bottom;
  long = ap length k.stack;
  bound = k.others 27 (λ e. j (sym e)) (λ e. omega (arith, e));
  apart = λ width a x. same_load d m n width a k;
}

-- a value in a register
set_register : (f : Frame) (sp d v : ℕ) (m n : Machine) (s : Spot → ℕ) → Keeps d m n → reg n.regs d ≡ v → Holds f sp m s → Holds f sp n (set s (Register d) v)
set_register f sp d v m n s k e h = record {
  registers = λ r g. elim (P.same_or_not r d) [
    | inl q ↦ ap (reg n.regs) q ∙ e ∙ sym (ap (λ b. cond b v (s (Register r))) (ap (λ x. x == d) q ∙ same_is d))
    | inr q ↦ k.others r q g.place.free ∙ h.registers r g ∙ sym (ap (λ b. cond b v (s (Register r))) (other_is r d q))
  ];
  words = λ j l. same_load d m n 8 (word_address f sp j) k ∙ h.words j l;
  fit = h.fit;
}

pub value_makes : ValueMakes
value_makes f s is sp d v m home g h l =
    let k = l.path.keeps in record {
      after = l.after;
      steps = l.path.steps;
      goes = l.path.goes;
      pc = l.pc;
      frame = same_frame f sp d m l.after home.pointer g k;
      holds = set_register f sp d v m l.after s k l.value h;
      spares = same_spares f sp d m l.after home.bound k;
    }

-- a word of the frame by the stack pointer
at_word : (f : Frame) (sp n : ℕ) (m : Machine) → IsFrame f sp m → n ≤ f.slots → plus (reg m.regs 2) (pos (8 * (f.out + n))) ≡ word_address f sp n
at_word f sp n m g h =
    let r = g.room in
    let t = g.small in
    let e : 8 * (f.out + n) % 2 ^ 64 ≡ 8 * (f.out + n) = mod-eq_of_lt (omega (arith, r, t, h)) in
    ap (λ p. (p + 8 * (f.out + n) % 2 ^ 64) % 2 ^ 64) g.pointer
    ∙ ap (λ k. (sp + k) % 2 ^ 64) e
    ∙ mod-eq_of_lt (omega (arith, r, t, h))

-- a word of memory in a register
pub word_by : (r base a v : ℕ) (z : ℤ) (m : Machine) → IsWell m → load m 8 a ≡ Some v → v < 2 ^ 64 → P.IsTarget r r → plus (reg m.regs base) z ≡ a → HasAt m.text m.pc (i.Load Ld r base z ∷ []) → Leaves (i.Load Ld r base z ∷ []) m r v
word_by r base a v z m g l b t at c =
    let p0 = P.here r m g in
    let p = P.write r m m r v (i.Load Ld r base z) p0 c.0
    (ap (λ x. on_load m x (load m 8 x) (λ k. with_reg m r k)) at ∙ ap (λ o. on_load m a o (λ k. with_reg m r k)) l) b t in
    P.ends (i.Load Ld r base z ∷ []) r m (with_reg m r v) v p refl (P.last r m m r v p0 t.some t.low)

-- the instructions of a load and of a store near the stack pointer
unfoldable pub near_load : Frame → ℕ → ℕ → List Inst
near_load f r n = i.Load Ld r 2 (pos (8 * (f.out + n))) ∷ []

unfoldable pub near_store : Frame → ℕ → ℕ → List Inst
near_store f r n = i.Store Sd r 2 (pos (8 * (f.out + n))) ∷ []

pub word_in : (f : Frame) (sp r n v : ℕ) (m : Machine) → IsFrame f sp m → n ≤ f.slots → load m 8 (word_address f sp n) ≡ Some v → v < 2 ^ 64 → P.IsTarget r r → HasAt m.text m.pc (near_load f r n) → Leaves (near_load f r n) m r v
unfolding near_load
word_in f sp r n v m g h l b t c = word_by r 2 (word_address f sp n) v (pos (8 * (f.out + n))) m g.well l b t (at_word f sp n m g h) c

pub near_load_makes : (f : Frame) (s : Spot → ℕ) (r n : ℕ) → IsHome r → n ≤ f.slots → Makes f (near_load f r n) s (set s (Register r) (s (Word n)))
near_load_makes f s r n home l sp m g h c =
    value_makes f s (near_load f r n) sp r (s (Word n)) m home g h (word_in f sp r n (s (Word n)) m g l (h.words n l) (h.fit n l) (P.result r home.place) c)

-- x31 and x1 are no places
pub scratch_leads : (f : Frame) (sp x v : ℕ) (is : List Inst) (m : Machine) (s : Spot → ℕ) → ((r : ℕ) → IsHome r → r ≢ x) → x ≢ 2 → x ≢ 27 → IsFrame f sp m → Holds f sp m s → (w : Leaves is m x v) → (l : Leads f sp is m s) × (reg l.after.regs x ≡ v) × (l.after ≡ w.after)
scratch_leads f sp x v is m s apart two bound g h l =
    let k = l.path.keeps in (
      record {
        after = l.after;
        steps = l.path.steps;
        goes = l.path.goes;
        pc = l.pc;
        frame = same_frame f sp x m l.after two g k;
        holds = record {
          registers = λ r q. k.others r (apart r q) q.place.free ∙ h.registers r q;
          words = λ j b. same_load x m l.after 8 (word_address f sp j) k ∙ h.words j b;
          fit = h.fit;
        };
        spares = same_spares f sp x m l.after bound k;
      },
      l.value,
      refl,
    )

-- a register's number in a word of the frame
set_word : (f : Frame) (sp n v : ℕ) (m : Machine) (s : Spot → ℕ) → IsFrame f sp m → Holds f sp m s → n ≤ f.slots → v < 2 ^ 64 →
    store m 8 (word_address f sp n) v ≡ Some (m.window, written m.bottom m.stack 8 (word_address f sp n) v) →
    (j : ℕ) → j ≤ f.slots → load (with_windows m m.window (written m.bottom m.stack 8 (word_address f sp n) v)) 8 (word_address f sp j) ≡ Some (set s (Word n) v (Word j))
set_word f sp n v m s g h l b w j k =
    let after = written m.bottom m.stack 8 (word_address f sp n) v in
    elim (P.same_or_not j n) [
      | inl q ↦ ap (λ x. load (with_windows m m.window after) 8 (word_address f sp x)) q
          ∙ loads_stored m 8 (word_address f sp n) v m.window after g.placed (omega arith) (omega (arith, b)) w
          ∙ sym (ap (λ t. Some (cond t v (s (Word j)))) (ap (λ x. x == n) q ∙ same_is n))
      | inr q ↦ loads_apart m 8 8 (word_address f sp n) (word_address f sp j) v m.window after (words_apart f sp n j (λ e. q (sym e))) w
          ∙ h.words j k
          ∙ sym (ap (λ t. Some (cond t v (s (Word j)))) (other_is j n q))
    ]
  where
    words_apart : (f : Frame) (sp n j : ℕ) → n ≢ j → (word_address f sp j + 8 ≤ word_address f sp n) ⊎ (word_address f sp n + 8 ≤ word_address f sp j)
    words_apart f sp n j h = elim (cases_lt j n) [ inl a ↦ inl (omega (arith, a)) | inr a ↦ inr (omega (arith, a, h)) ]

spared : (f : Frame) (sp n width a : ℕ) → n ≤ f.slots → (a + width ≤ word_address f sp 0) ⊎ (word_address f sp f.slots + 8 ≤ a) → (a + width ≤ word_address f sp n) ⊎ (word_address f sp n + 8 ≤ a)
spared f sp n width a l (inl h) = inl (omega arith)
spared f sp n width a l (inr h) = inr (omega arith)

pub store_by : (f : Frame) (sp r base n v : ℕ) (z : ℤ) (m : Machine) (s : Spot → ℕ) → IsFrame f sp m → Holds f sp m s → n ≤ f.slots → reg m.regs r ≡ v → plus (reg m.regs base) z ≡ word_address f sp n → HasAt m.text m.pc (i.Store Sd r base z ∷ []) → Leads f sp (i.Store Sd r base z ∷ []) m (set s (Word n) v)
store_by f sp r base n v z m s g h l e at c =
    let a = word_address f sp n in
    let r1 = g.room in
    let r2 = g.high in
    let r3 = g.low in
    let b : v < 2 ^ 64 = subst (λ x. x < 2 ^ 64) e (P.reg_word m r g.well) in
    let low : m.bottom ≤ a = omega (arith, r3) in
    let high : a + 8 ≤ m.bottom + length m.stack = omega (arith, r1, r2, l) in
    let stack = written m.bottom m.stack 8 a v in
    let w : store m 8 a v ≡ Some (m.window, stack) = store_stack m 8 a v g.placed low (omega arith) high in
    let after = with_windows m m.window stack in
    let long : length stack ≡ length m.stack = length-written m.bottom 8 a v m.stack low high in
    record {
      after = after;
      steps = 1;
      goes = once m after (i.Store Sd r base z) c.0
          (ap (λ x. on_store m x (store m 8 x (reg m.regs r))) at
          ∙ ap (λ x. on_store m a (store m 8 a x)) e
          ∙ ap (on_store m a) w);
      pc = refl;
      frame = record {
        placed = placed_windows m m.window stack g.placed refl;
        well = record { count = g.well.count; words = g.well.words };
        pointer = g.pointer;
        low = g.low;
        high = omega (arith, r2, long);
        room = g.room;
        small = g.small;
        text = g.text;
      };
      holds = record {
        registers = h.registers;
        words = set_word f sp n v m s g h l b w;
        fit = λ j k. fits_set (j == n) v (s (Word j)) b (h.fit j k);
      };
      spares = record {
        text = refl;
        pool = refl;
        window = refl;
        bottom = refl;
        long = long;
        bound = refl;
        apart = λ width x k. loads_apart m 8 width a x v m.window stack (spared f sp n width x l k) w;
      };
    }
  where
    fits_set : (t : Bool) (v x : ℕ) → v < 2 ^ 64 → x < 2 ^ 64 → cond t v x < 2 ^ 64
    fits_set true v x a b = a
    fits_set false v x a b = b

pub near_store_leads : (f : Frame) (sp r n v : ℕ) (m : Machine) (s : Spot → ℕ) → IsFrame f sp m → Holds f sp m s → n ≤ f.slots → reg m.regs r ≡ v → HasAt m.text m.pc (near_store f r n) → Leads f sp (near_store f r n) m (set s (Word n) v)
unfolding near_store
near_store_leads f sp r n v m s g h l e c = store_by f sp r 2 n v (pos (8 * (f.out + n))) m s g h l e (at_word f sp n m g l) c

unfoldable pub then_leads : (f : Frame) (sp : ℕ) (is js : List Inst) (m : Machine) (s t : Spot → ℕ) (a : Leads f sp is m s) → Leads f sp js a.after t → Leads f sp (is ++ js) m t
then_leads f sp is js m s t a b =
    let x = a.spares in
    let y = b.spares in record {
      after = b.after;
      steps = a.steps + b.steps;
      goes = then step a.steps b.steps m a.after b.after a.goes b.goes;
      pc = b.pc ∙ ap (λ n. n + 4 * length js) a.pc ∙ (let e = length-append is js in omega (arith, e));
      frame = b.frame;
      holds = b.holds;
      spares = record {
        text = y.text ∙ x.text;
        pool = y.pool ∙ x.pool;
        window = y.window ∙ x.window;
        bottom = y.bottom ∙ x.bottom;
        long = y.long ∙ x.long;
        bound = y.bound ∙ x.bound;
        apart = λ width n h. y.apart width n h ∙ x.apart width n h;
      };
    }

pub register_move : (f : Frame) (s : Spot → ℕ) (a d : ℕ) → IsHome a → IsHome d → Makes f (i.OpImm Addi d a (pos 0) ∷ []) s (set s (Register d) (s (Register a)))
register_move f s a d ha hd sp m g h c =
    let v = s (Register a) in
    let e : reg m.regs a ≡ v = h.registers a ha in
    let b : v < 2 ^ 64 = subst (λ x. x < 2 ^ 64) e (P.reg_word m a g.well) in
    let p0 = P.here d m g.well in
    let p = P.imm d m m Addi d a v v (pos 0) p0 c.0 e (plus_none v b) (P.result d hd.place) in
    value_makes f s (i.OpImm Addi d a (pos 0) ∷ []) sp d v m hd g h
    (P.ends (i.OpImm Addi d a (pos 0) ∷ []) d m (with_reg m d v) v p refl (P.last d m m d v p0 hd.place.some hd.place.low))
