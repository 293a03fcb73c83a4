-- Words of the stack that are none of a frame's own.
use Rattle.std.proofs.Common.{◌≡◌, ℕ, ◌+◌, ◌%◌, ◌^◌, ◌<◌, ◌≤◌, [], ◌∷◌, length, ap, ◌∙◌, subst, refl, arith, Some, Bool, true, false, cond, ℤ, pos, ◌*ℤ◌, inl, inr, ◌⊎◌}
use Rattle.bk_num.specs.Word.{residue}
use Rattle.bk_num.specs.Bytes.{written}
use Rattle.bk_num.proofs.Bytes.{length-written}
use Rattle.bk_rv_isa.specs.declared.inst.RegisterOp.TheVariants.{Add}
use Rattle.bk_rv_isa.specs.declared.inst.LoadOp.TheVariants.{Ld}
use Rattle.bk_rv_isa.specs.declared.inst.StoreOp.TheVariants.{Sd}
use Rattle.bk_rv_isa.specs.declared.inst.Inst.TheVariants as i
use Rattle.bk_rv_isa.specs.Machine.{Machine, HasAt, reg, plus, load, store, with_windows, on_store, step}
use Rattle.bk_rv_isa.proofs.Memory.{store_stack, placed_windows, loads_stored, loads_apart}
use Rattle.bk_rv_isa.proofs.Steps.{once}
use Rattle.bk_machine.proofs.Running.{then}
use Rattle.bk_emit.specs.declared.blocks.Frame.{Frame}
use Rattle.bk_emit.specs.declared.blocks.Spot.{Spot}
use Rattle.bk_emit.specs.declared.blocks.Spot.TheVariants.{Register}
use Rattle.bk_rv_emit.specs.Numbers.{upper, lower}
use Rattle.bk_rv_emit.specs.Words.{is_near}
use Rattle.bk_rv_emit_laws.specs.Frames.{IsHome, IsFrame, Holds, Leads, set, word_address}
use Rattle.bk_rv_emit_laws.specs.Areas.{IsBeside, Puts, WordLoads, WordStores}
use Rattle.bk_rv_emit_laws.proofs.Paths as P
use Rattle.bk_rv_emit_laws.proofs.Families.{ahead}
use Rattle.bk_rv_emit_laws.proofs.Slots.{value_makes, word_by, then_leads}
use Rattle.bk_rv_emit_laws.proofs.Far.{long_base, long_word, base_leads, behind}

near_at : (f : Frame) (sp o : ℕ) (m : Machine) → IsFrame f sp m → sp + o < 2 ^ 32 → o < 2 ^ 21 → plus (reg m.regs 2) (pos o) ≡ sp + o
near_at f sp o m g small near = ap (λ x. plus x (pos o)) g.pointer ∙ ahead sp o (omega (arith, small)) near

far_at : (sp o b : ℕ) → b ≡ (residue 64 (upper (pos o) *ℤ pos (2 ^ 12)) + sp) % 2 ^ 64 → sp + o < 2 ^ 32 → o < 2 ^ 21 → plus b (lower (pos o)) ≡ sp + o
far_at sp o b e small near = ap (λ x. plus x (lower (pos o))) e ∙ long_word sp o small (omega (arith, near))

load_by : (t : Bool) (f : Frame) (s : Spot → ℕ) (sp d o v : ℕ) (m : Machine) → IsFrame f sp m → Holds f sp m s → IsHome d → o < 2 ^ 21 → sp + o < 2 ^ 32 → IsBeside f sp (sp + o) → load m 8 (sp + o) ≡ Some v → v < 2 ^ 64 →
    HasAt m.text m.pc (cond t (i.Load Ld d 2 (pos o) ∷ []) (i.Lui 1 (upper (pos o)) ∷ i.Op Add 1 1 2 ∷ i.Load Ld d 1 (lower (pos o)) ∷ [])) →
    Leads f sp (cond t (i.Load Ld d 2 (pos o) ∷ []) (i.Lui 1 (upper (pos o)) ∷ i.Op Add 1 1 2 ∷ i.Load Ld d 1 (lower (pos o)) ∷ [])) m (set s (Register d) v)
unfolding long_base
load_by true f s sp d o v m g h home near small beside l b c =
    value_makes f s (i.Load Ld d 2 (pos o) ∷ []) sp d v m home g h (word_by d 2 (sp + o) v (pos o) m g.well l b (P.result d home.place) (near_at f sp o m g small near) c)
load_by false f s sp d o v m g h home near small beside l b c =
    let js = i.Load Ld d 1 (lower (pos o)) ∷ [] in
    let x = base_leads f sp o m s g h (c.0, (c.1.0, tt)) in
    let y = x.leads in
    let n = y.after in
    let e = behind f sp (long_base 1 o) js m s y c in
    then_leads f sp (long_base 1 o) js m s (set s (Register d) v) y
    (value_makes f s js sp d v n home y.frame y.holds
    (word_by d 1 (sp + o) v (lower (pos o)) n y.frame.well (y.spares.apart 8 (sp + o) beside ∙ l) b (P.result d home.place) (far_at sp o (reg n.regs 1) x.base small near) e))

pub word_loads : WordLoads
word_loads f s sp d o v m g h home near small beside l b c = load_by (is_near o) f s sp d o v m g h home near small beside l b c

-- the words of the frame lie beside a word that is none of them
other_word : (f : Frame) (sp a j : ℕ) → j ≤ f.slots → IsBeside f sp a → (word_address f sp j + 8 ≤ a) ⊎ (a + 8 ≤ word_address f sp j)
other_word f sp a j l (inl h) = inr (omega (arith, l, h))
other_word f sp a j l (inr h) = inl (omega (arith, l, h))

put_by : (f : Frame) (s : Spot → ℕ) (sp r base a v : ℕ) (z : ℤ) (m : Machine) → IsFrame f sp m → Holds f sp m s → IsBeside f sp a → sp ≤ a → a + 8 ≤ m.bottom + length m.stack →
    reg m.regs r ≡ v → plus (reg m.regs base) z ≡ a → HasAt m.text m.pc (i.Store Sd r base z ∷ []) → Puts f sp (i.Store Sd r base z ∷ []) m s a v
put_by f s sp r base a v z m g h beside from high e at c =
    let r2 = g.high in
    let r3 = g.low in
    let b : v < 2 ^ 64 = subst (λ x. x < 2 ^ 64) e (P.reg_word m r g.well) in
    let low : m.bottom ≤ a = omega (arith, r3, from) in
    let stack = written m.bottom m.stack 8 a v in
    let w : store m 8 a v ≡ Some (m.window, stack) = store_stack m 8 a v g.placed low (omega arith) high in
    let long : length stack ≡ length m.stack = length-written m.bottom 8 a v m.stack low high in
    let after = with_windows m m.window stack in
    record {
      after = after;
      steps = 1;
      goes = once m after (i.Store Sd r base z) c.0
          (ap (λ x. on_store m x (store m 8 x (reg m.regs r))) at
          ∙ ap (λ x. on_store m a (store m 8 a x)) e
          ∙ ap (on_store m a) w);
      pc = refl;
      frame = record {
        placed = placed_windows m m.window stack g.placed refl;
        well = record { count = g.well.count; words = g.well.words };
        pointer = g.pointer;
        low = g.low;
        high = omega (arith, r2, long);
        room = g.room;
        small = g.small;
        text = g.text;
      };
      holds = record {
        registers = h.registers;
        words = λ j k. loads_apart m 8 8 a (word_address f sp j) v m.window stack (other_word f sp a j k beside) w ∙ h.words j k;
        fit = h.fit;
      };
      there = loads_stored m 8 a v m.window stack g.placed (omega arith) (omega (arith, b)) w;
      apart = λ width x k. loads_apart m 8 width a x v m.window stack k w;
      bound = refl;
      text = refl;
      pool = refl;
      window = refl;
      bottom = refl;
      long = long;
    }

store_to : (t : Bool) (f : Frame) (s : Spot → ℕ) (sp r o : ℕ) (m : Machine) → IsFrame f sp m → Holds f sp m s → IsHome r → o < 2 ^ 21 → sp + o < 2 ^ 32 → IsBeside f sp (sp + o) → sp + o + 8 ≤ m.bottom + length m.stack →
    HasAt m.text m.pc (cond t (i.Store Sd r 2 (pos o) ∷ []) (i.Lui 1 (upper (pos o)) ∷ i.Op Add 1 1 2 ∷ i.Store Sd r 1 (lower (pos o)) ∷ [])) →
    Puts f sp (cond t (i.Store Sd r 2 (pos o) ∷ []) (i.Lui 1 (upper (pos o)) ∷ i.Op Add 1 1 2 ∷ i.Store Sd r 1 (lower (pos o)) ∷ [])) m s (sp + o) (s (Register r))
unfolding long_base
store_to true f s sp r o m g h home near small beside high c =
    put_by f s sp r 2 (sp + o) (s (Register r)) (pos o) m g h beside (omega arith) high (h.registers r home) (near_at f sp o m g small near) c
store_to false f s sp r o m g h home near small beside high c =
    let js = i.Store Sd r 1 (lower (pos o)) ∷ [] in
    let x = base_leads f sp o m s g h (c.0, (c.1.0, tt)) in
    let y = x.leads in
    let n = y.after in
    let q = y.spares in
    let e = behind f sp (long_base 1 o) js m s y c in
    let bottom = q.bottom in
    let long = q.long in
    let p = put_by f s sp r 1 (sp + o) (s (Register r)) (lower (pos o)) n y.frame y.holds beside (omega arith) (omega (arith, high, bottom, long)) (y.holds.registers r home) (far_at sp o (reg n.regs 1) x.base small near) e in
    let pc = p.pc in
    let pc0 = y.pc in
    record {
      after = p.after;
      steps = y.steps + p.steps;
      goes = then step y.steps p.steps m n p.after y.goes p.goes;
      pc = omega (arith, pc, pc0);
      frame = p.frame;
      holds = p.holds;
      there = p.there;
      apart = λ width a k. p.apart width a k ∙ x.same width a;
      bound = p.bound ∙ q.bound;
      text = p.text ∙ q.text;
      pool = p.pool ∙ q.pool;
      window = p.window ∙ q.window;
      bottom = p.bottom ∙ bottom;
      long = p.long ∙ long;
    }

pub word_stores : WordStores
word_stores f s sp r o m g h home near small beside high c = store_to (is_near o) f s sp r o m g h home near small beside high c
