-- What the code of a value leaves of the machine.
use Rattle.std.specs.Prelude.{◌≡◌, ◌≢◌, ◌<◌, ℕ, ◌+◌, ◌*◌, ◌^◌, List, length, slice_index}
use Rattle.bk_rv_isa.specs.declared.inst.Inst.{Inst}
use Rattle.bk_rv_isa.specs.Machine.{Machine, reg}
use Rattle.bk_rv_isa.specs.Machine.{Goes}

-- 32 registers, each of them a word
pub record IsWell (m : Machine) : Type 0 where
  pub count : length m.regs ≡ 32
  pub words : (k : ℕ) → slice_index m.regs k < 2 ^ 64

-- no register but d and x31 differs, nor any memory
pub record Keeps (d : ℕ) (m after : Machine) : Type 0 where
  pub well : IsWell after
  pub others : (k : ℕ) → k ≢ d → k ≢ 31 → reg after.regs k ≡ reg m.regs k
  pub text : after.text ≡ m.text
  pub pool : after.pool ≡ m.pool
  pub window : after.window ≡ m.window
  pub stack : after.stack ≡ m.stack
  pub bottom : after.bottom ≡ m.bottom

-- a way from one machine to another that writes d and x31 alone
pub record Path (d : ℕ) (m now : Machine) : Type 0 where
  pub steps : ℕ
  pub goes : Goes steps m now
  pub keeps : Keeps d m now

-- the instructions at the pc, which are made to their end, leave this number in d
pub record Leaves (is : List Inst) (m : Machine) (d n : ℕ) : Type 0 where
  pub after : Machine
  pub path : Path d m after
  pub pc : after.pc ≡ m.pc + 4 * length is
  pub value : reg after.regs d ≡ n
