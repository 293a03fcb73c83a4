-- What loads, stores and checks do to the data window, and traps.
use Rattle.std.specs.Prelude.{◌≡◌, ◌≢◌, ◌<◌, ◌≤◌, ℕ, ◌+◌, ◌*◌, ◌%◌, ◌^◌, ◌==◌, if◌then◌else◌, true, false, ℤ, pos, List, [], ◌∷◌, length, Some, ◌⊎◌}
use Rattle.bk_num.specs.Word.{signed, residue}
use Rattle.bk_ops.specs.Memory.{number_at, with_number, with_zeros, with_move}
use Rattle.bk_rv_isa.specs.declared.inst.ImmediateOp.TheVariants.{Addi}
use Rattle.bk_rv_isa.specs.declared.inst.Inst.{Inst}
use Rattle.bk_rv_isa.specs.declared.inst.Inst.TheVariants as i
use Rattle.bk_machine.specs.declared.stop.Stop.TheVariants.{Trapped}
use Rattle.bk_rv_isa.specs.Machine.{Machine, IsPlaced, HasAt, reg, plus, run}
use Rattle.bk_emit.specs.declared.table.Regs.{Regs}
use Rattle.bk_rv_emit.specs.Units.{load_op, store_op, store_bool, nil_check, chunks}
use Rattle.bk_rv_isa.specs.Machine.{Goes}
use Rattle.bk_rv_emit_laws.specs.Leaving.{IsWell}
use Rattle.bk_rv_emit_laws.specs.Does.{Does}
use Rattle.bk_rv_emit_laws.specs.Octets.{AreBytes}

-- a way that writes x31 alone, and this data window
pub record Trail (m now : Machine) (d : List ℕ) : Type 0 where
  pub steps : ℕ
  pub goes : Goes steps m now
  pub well : IsWell now
  pub others : (k : ℕ) → k ≢ 31 → reg now.regs k ≡ reg m.regs k
  pub text : now.text ≡ m.text
  pub pool : now.pool ≡ m.pool
  pub window : now.window ≡ d
  pub stack : now.stack ≡ m.stack
  pub bottom : now.bottom ≡ m.bottom

-- the instructions at the pc, which are made to their end, leave this data window
pub record Writes (is : List Inst) (m : Machine) (window : List ℕ) : Type 0 where
  pub after : Machine
  pub trail : Trail m after window
  pub pc : after.pc ≡ m.pc + 4 * length is

-- the machine traps with a number, and its data window is as it was
pub record Traps (m : Machine) (n : ℕ) : Type 0 where
  pub steps : ℕ
  pub after : Machine
  pub stops : run steps m ≡ (Some (Trapped n), after)
  pub window : after.window ≡ m.window

abbrev pub IsSize : ℕ → Type 0
IsSize w = (w ≡ 8) ⊎ ((w ≡ 4) ⊎ ((w ≡ 2) ⊎ (w ≡ 1)))

-- what a load makes of the bytes' number
abbrev pub loaded : ℕ → ℕ → ℕ
loaded w n = if w == 4 then residue 64 (signed 32 n) else n

abbrev pub LoadDoes : ℕ → Type 0
LoadDoes w =
    (d a n : ℕ) (c : ℤ) (m : Machine) → IsPlaced m → n < 2 ^ 64 → number_at m.window w (plus (reg m.regs a) c) ≡ Some n →
    Does (i.Load (load_op w) d a c ∷ []) m d (loaded w n)

abbrev pub StoreDoes : ℕ → Type 0
StoreDoes w =
    (a b : ℕ) (c : ℤ) (m : Machine) (window : List ℕ) → IsWell m → HasAt m.text m.pc (i.Store (store_op w) b a c ∷ []) →
    with_number m.window w (plus (reg m.regs a) c) (reg m.regs b) ≡ Some window → Writes (i.Store (store_op w) b a c ∷ []) m window

abbrev pub StoreBoolDoes : Type 0
StoreBoolDoes =
    (r : Regs) (c : ℤ) (m : Machine) (window : List ℕ) → r.a ≢ 31 → IsWell m → HasAt m.text m.pc (store_bool r c) →
    with_number m.window 1 (plus (reg m.regs r.a) c) (reg m.regs r.b % 2) ≡ Some window → Writes (store_bool r c) m window

-- a check passes an address other than 0, and traps 1 at 0
abbrev pub CheckPasses : Type 0
CheckPasses = (a : ℕ) (m : Machine) → IsWell m → m.pc < 2 ^ 32 → HasAt m.text m.pc (nil_check a) → reg m.regs a ≢ 0 → Writes (nil_check a) m m.window

abbrev pub CheckTraps : Type 0
CheckTraps = (a : ℕ) (m : Machine) → IsWell m → HasAt m.text m.pc (nil_check a) → reg m.regs a ≡ 0 → Traps m 1

abbrev pub TrapDoes : Type 0
TrapDoes = (n : ℕ) (m : Machine) → 1 ≤ n → n ≤ 6 → IsWell m → HasAt m.text m.pc (i.OpImm Addi 31 0 (pos n) ∷ i.Ebreak ∷ []) → Traps m n

-- zeros, piece by piece
abbrev pub ZeroDoes : Type 0
ZeroDoes =
    (r : Regs) (n : ℕ) (m : Machine) (window : List ℕ) → IsWell m → r.a ≢ 31 → reg m.regs r.a + n < 2 ^ 64 → HasAt m.text m.pc (chunks false r n) →
    with_zeros m.window n (reg m.regs r.a) ≡ Some window → Writes (chunks false r n) m window

-- the bytes at one address at another one, piece by piece
abbrev pub MoveDoes : Type 0
MoveDoes =
    (r : Regs) (n : ℕ) (m : Machine) (window : List ℕ) → IsWell m → IsPlaced m → AreBytes m.window → r.a ≢ 31 → r.b ≢ 31 →
    reg m.regs r.a + n < 2 ^ 64 → reg m.regs r.b + n < 2 ^ 64 → HasAt m.text m.pc (chunks true r n) →
    with_move m.window n (reg m.regs r.a) (reg m.regs r.b) ≡ Some window → Writes (chunks true r n) m window
