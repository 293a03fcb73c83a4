-- How functions and calls begin and end on the machine.
use Rattle.std.specs.Prelude.{◌≡◌, ◌≢◌, ◌<◌, ◌≤◌, ℕ, pos, ◌+◌, ◌-◌, ◌*◌, ◌%◌, ◌^◌, List, [], ◌∷◌, length, Some, ◌⊎◌}
use Rattle.bk_rv_isa.specs.declared.inst.Inst.{Inst}
use Rattle.bk_rv_isa.specs.declared.inst.Inst.TheVariants as i
use Rattle.bk_rv_isa.specs.Machine.{Machine, IsPlaced, HasAt, Goes, reg, load}
use Rattle.bk_fixup.specs.Patches.{distance}
use Rattle.bk_rv_emit.specs.Blocks.{entry, leave}
use Rattle.bk_rv_emit.specs.Numbers.{upper, lower}
use Rattle.bk_rv_emit_laws.specs.Leaving.{IsWell, Path}
use Rattle.bk_rv_emit_laws.specs.Octets.{AreBytes}
use Rattle.bk_rv_emit_laws.specs.Windows.{Traps}

-- the frame of a function was made: the stack pointer is below by its bytes, the return address in its last word
pub record Enters (f : ℕ) (m : Machine) : Type 0 where
  pub after : Machine
  pub steps : ℕ
  pub goes : Goes steps m after
  pub pc : after.pc ≡ m.pc + 4 * length (entry f)
  pub well : IsWell after
  pub pointer : reg after.regs 2 + f ≡ reg m.regs 2
  pub saved : load after 8 (reg m.regs 2 - 8) ≡ Some (reg m.regs 1)
  pub others : (k : ℕ) → k ≢ 2 → k ≢ 31 → reg after.regs k ≡ reg m.regs k
  pub apart : (width a : ℕ) → (a + width ≤ reg m.regs 2 - 8) ⊎ (reg m.regs 2 ≤ a) → load after width a ≡ load m width a
  pub text : after.text ≡ m.text
  pub pool : after.pool ≡ m.pool
  pub window : after.window ≡ m.window
  pub bottom : after.bottom ≡ m.bottom
  pub long : length after.stack ≡ length m.stack
  pub bytes : AreBytes m.stack → AreBytes after.stack

-- the stack pointer and the bound of the stack, which has so many bytes left
pub record HasLeft (m : Machine) (stack : ℕ) : Type 0 where
  pub bound : reg m.regs 27 ≡ m.bottom
  pub pointer : reg m.regs 2 ≡ m.bottom + stack
  pub inside : stack ≤ length m.stack
  pub small : m.bottom + length m.stack < 2 ^ 32

-- the entry makes the frame where it does not exceed the stack left, else it traps 5
abbrev pub EntryEnters : Type 0
EntryEnters =
    (f stack : ℕ) (m : Machine) → IsWell m → IsPlaced m → HasLeft m stack → 8 ≤ f → f ≤ 2 ^ 20 → m.pc < 2 ^ 32 → HasAt m.text m.pc (entry f) →
    f ≤ stack → Enters f m

abbrev pub EntryTraps : Type 0
EntryTraps =
    (f stack : ℕ) (m : Machine) → IsWell m → IsPlaced m → HasLeft m stack → f ≤ 2 ^ 20 → HasAt m.text m.pc (entry f) →
    stack < f → Traps m 5

-- the frame is given back, and the machine is at the return address
pub record Returns (f back : ℕ) (m : Machine) : Type 0 where
  pub after : Machine
  pub steps : ℕ
  pub goes : Goes steps m after
  pub some : 1 ≤ steps
  pub pc : after.pc ≡ back
  pub well : IsWell after
  pub pointer : reg after.regs 2 ≡ reg m.regs 2 + f
  pub others : (k : ℕ) → k ≢ 1 → k ≢ 2 → k ≢ 31 → reg after.regs k ≡ reg m.regs k
  pub same : (width a : ℕ) → load after width a ≡ load m width a
  pub text : after.text ≡ m.text
  pub pool : after.pool ≡ m.pool
  pub window : after.window ≡ m.window
  pub stack : after.stack ≡ m.stack
  pub bottom : after.bottom ≡ m.bottom

abbrev pub LeaveReturns : Type 0
LeaveReturns =
    (f back : ℕ) (m : Machine) → IsWell m → 8 ≤ f → f ≤ 2 ^ 20 → reg m.regs 2 + f < 2 ^ 32 → back < 2 ^ 32 → back % 2 ≡ 0 →
    load m 8 (reg m.regs 2 + f - 8) ≡ Some back → HasAt m.text m.pc (leave f) → Returns f back m

-- a call whose two words have a number in them
abbrev pub call_insts : ℕ → List Inst
call_insts n = i.Auipc 31 (upper (pos n)) ∷ i.Jalr 1 31 (lower (pos n)) ∷ []

-- the machine is at the callee, and x1 holds the address behind the call
pub record Calls (m : Machine) (to : ℕ) : Type 0 where
  pub after : Machine
  pub path : Path 1 m after
  pub pc : after.pc ≡ to
  pub back : reg after.regs 1 ≡ m.pc + 8

-- the number is the distance to the callee
abbrev pub CallCalls : Type 0
CallCalls =
    (to : ℕ) (m : Machine) → IsWell m → m.pc < 2 ^ 29 → to < 2 ^ 29 → to % 2 ≡ 0 → HasAt m.text m.pc (call_insts (distance m.pc to)) → Calls m to
