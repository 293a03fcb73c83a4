-- Steps of a block: what is computed, and steps one behind the other.
use Rattle.std.proofs.Common.{◌≡◌, ◌≢◌, ℕ, ℤ, ◌++◌, ◌-◌, ◌/◌, ◌%◌, ◌^◌, ◌<◌, List, [], ◌∷◌, length, ap, ◌∙◌, sym, refl, arith, Option, Some, None, Bool, true, false, cond}
use Rattle.std.specs.Prelude.{map, slice_get, nat_le, ◌&&◌, ◌==◌}
use Rattle.std.proofs.lemmas.Option.{slice_get_within}
use Rattle.bk_ops.specs.declared.family.Family.TheVariants as op
use Rattle.bk_ops.specs.declared.family.RvOp.{RvOp}
use Rattle.bk_ops.specs.declared.family.RvOp.TheVariants as rv
use Rattle.bk_piece.specs.declared.Handle.{Handle}
use Rattle.bk_emit.specs.declared.table.Regs.{Regs}
use Rattle.bk_rv_emit.specs.Lines.{inst}
use Rattle.bk_ops.specs.declared.types.Target.TheVariants.{Riscv64}
use Rattle.bk_ops.specs.Formulas.{rv_formula}
use Rattle.bk_ops.specs.Values.{valued}
use Rattle.bk_rv_isa.specs.declared.inst.Inst.{Inst}
use Rattle.bk_rv_isa.specs.Machine.{Machine, HasAt, reg, fetch, decoded}
use Rattle.bk_rv_isa.proofs.Steps.{has_front}
use Rattle.bk_emit.specs.declared.blocks.Frame.{Frame}
use Rattle.bk_emit.specs.declared.blocks.Spot.{Spot}
use Rattle.bk_emit.specs.declared.blocks.Spot.TheVariants.{Register}
use Rattle.bk_rv_emit.specs.Units.{machine_unit, family_unit}
use Rattle.bk_emit.specs.Blocks.{regs_of}
use Rattle.bk_rv_emit_laws.specs.Leaving.{Leaves}
use Rattle.bk_rv_emit_laws.specs.Does.{AreFree}
use Rattle.bk_rv_emit_laws.specs.Frames.{IsHome, IsFrame, Holds, set}
use Rattle.bk_rv_emit_laws.specs.Steps.{Makes, AreHomes, ComputeMakes, StepsMake}
use Rattle.bk_rv_emit_laws.proofs.Slots.{value_makes, then_leads}
use Rattle.bk_rv_emit_laws.proofs.Far.{behind, map-append}
use Rattle.bk_rv_emit_laws.proofs.Units.{unit_does}

tested : {A : Type 0} (b : Bool) (x : Option A) (i : A) → cond b x None ≡ Some i → (b ≡ true) × (x ≡ Some i)
tested true x i h = (refl, h)
tested false x i h = absurd cc

read_word : (o : Option ℕ) (i : Inst) → decoded o ≡ Some i → (w : ℕ) × (o ≡ Some w)
read_word None i h = absurd cc
read_word (Some w) i h = (w, refl)

-- where an instruction stands the pc is low
low_pc : (text : List ℕ) (pc : ℕ) (i : Inst) → length text < 2 ^ 26 → fetch text pc ≡ Some i → pc < 2 ^ 32
low_pc text pc i l h =
    let t = tested (nat_le 65536 pc && pc % 4 == 0) (decoded (slice_get text ((pc - 65536) / 4))) i h in
    let w = read_word (slice_get text ((pc - 65536) / 4)) i t.1 in
    let k : (pc - 65536) / 4 < length text = slice_get_within text ((pc - 65536) / 4) w.0 w.1 in
    omega (arith, k, l)

none_low : (is : List Inst) (m : Machine) → length m.text < 2 ^ 26 → HasAt m.text m.pc is → (is ≡ [] → ⊥) → m.pc < 2 ^ 32
none_low [] m l h e = absurd (e refl)
none_low (i ∷ is) m l h e = low_pc m.text m.pc i l h.0

free : (args : List ℕ) → AreHomes args → AreFree args
free [] h = tt
free (a ∷ rest) h = (h.0.place.free, free rest h.1)

same_words : (f : Frame) (sp : ℕ) (m : Machine) (s : Spot → ℕ) (args : List ℕ) → AreHomes args → Holds f sp m s → map (λ a. s (Register a)) args ≡ map (reg m.regs) args
same_words f sp m s [] h k = refl
same_words f sp m s (a ∷ rest) h k =
    ap (λ x. x ∷ map (λ a. s (Register a)) rest) (sym (k.registers a h.0)) ∙ ap (λ l. reg m.regs a ∷ l) (same_words f sp m s rest h.1 k)

sequence : (f : Frame) (is js : List Inst) (s t u : Spot → ℕ) → Makes f is s t → Makes f js t u → Makes f (is ++ js) s u
sequence f is js s t u a b sp m g h c =
    let l = a sp m g h (has_front is js m.text m.pc c) in
    then_leads f sp is js m t u l (b sp l.after l.frame l.holds (behind f sp is js m t l c))

pub steps_make : StepsMake
steps_make f ls ks s t u a b = (
  a.0 ++ b.0,
  ap (λ l. l ++ ks) (a.1) ∙ ap (λ l. map inst (a.0) ++ l) (b.1) ∙ sym (map-append (a.0) (b.0)),
  sequence f (a.0) (b.0) s t u (a.2) (b.2),
)

-- instructions that leave a value, whatever they are
computed : (is : List Inst) (f : Frame) (s : Spot → ℕ) (d v : ℕ) → IsHome d → (is ≡ [] → ⊥) →
    ((m : Machine) (sp : ℕ) → IsFrame f sp m → Holds f sp m s → m.pc < 2 ^ 32 → HasAt m.text m.pc is → Leaves is m d v) → Makes f is s (set s (Register d) v)
computed is f s d v home some unit sp m g h c = value_makes f s is sp d v m home g h (unit m sp g h (none_low is m g.text c some) c)

-- the lines of a unit that waits for no address are its instructions
pub unit_is : (o : RvOp) (w : ℕ) (r : Regs) (c : ℤ) (h : Option Handle) (f : ℕ) → o ≢ rv.Const → o ≢ rv.Addr → family_unit (op.Rv o) w r c h f ≡ map inst (machine_unit o w r c)
unfolding family_unit
unit_is rv.Const w r c h f a b = absurd (a refl)
unit_is rv.Addr w r c h f a b = absurd (b refl)
unit_is rv.Add w r c h f a b = refl
unit_is rv.Sub w r c h f a b = refl
unit_is rv.Mul w r c h f a b = refl
unit_is rv.And w r c h f a b = refl
unit_is rv.Or w r c h f a b = refl
unit_is rv.Xor w r c h f a b = refl
unit_is rv.Mulh w r c h f a b = refl
unit_is rv.Mulhu w r c h f a b = refl
unit_is rv.Div w r c h f a b = refl
unit_is rv.Divu w r c h f a b = refl
unit_is rv.Rem w r c h f a b = refl
unit_is rv.Remu w r c h f a b = refl
unit_is rv.Slt w r c h f a b = refl
unit_is rv.Sltu w r c h f a b = refl
unit_is rv.Lsl w r c h f a b = refl
unit_is rv.Lsr w r c h f a b = refl
unit_is rv.Asr w r c h f a b = refl
unit_is rv.Rotl w r c h f a b = refl
unit_is rv.Neg w r c h f a b = refl
unit_is rv.Seqz w r c h f a b = refl
unit_is rv.Snez w r c h f a b = refl
unit_is rv.Sel w r c h f a b = refl
unit_is rv.Addi w r c h f a b = refl
unit_is rv.Andi w r c h f a b = refl
unit_is rv.Ori w r c h f a b = refl
unit_is rv.Xori w r c h f a b = refl
unit_is rv.Slli w r c h f a b = refl
unit_is rv.Srli w r c h f a b = refl
unit_is rv.Srai w r c h f a b = refl
unit_is rv.Load w r c h f a b = refl
unit_is rv.Store w r c h f a b = refl
unit_is rv.StoreB w r c h f a b = refl
unit_is rv.Zero w r c h f a b = refl
unit_is rv.Move w r c h f a b = refl
unit_is rv.Nil w r c h f a b = refl

-- an address has no value
no_address : (c : ℤ) (vs : List ℕ) (v : ℕ) (o : RvOp) → valued (rv_formula o 64 c Riscv64) vs ≡ Some v → o ≢ rv.Addr
unfolding rv_formula
no_address c vs v o e q = let n : None ≡ Some v = ap (λ x. valued (rv_formula x 64 c Riscv64) vs) (sym q) ∙ e in cc

pub compute_makes : ComputeMakes
compute_makes o f s w d v args c k off home homes some fit e = (
  machine_unit o w (regs_of args (Some d)) c,
  unit_is o w (regs_of args (Some d)) c k f.bytes off (no_address c (map (λ a. s (Register a)) args) v o e),
  computed (machine_unit o w (regs_of args (Some d)) c) f s d v home some
      (λ m sp g h low at. unit_does o w d args c m v (free args homes) off
      (ap (valued (rv_formula o 64 c Riscv64)) (sym (same_words f sp m s args homes h)) ∙ e) g.well home.place low fit at),
)
