-- Jumps and branches of all forms.
use Rattle.std.specs.Prelude.{◌≡◌, ◌<◌, ◌≤◌, ℕ, ◌+◌, ◌*◌, ◌^◌, ◌==◌, Bool, true, false, not, if◌then◌else◌, length}
use Rattle.bk_rv_isa.specs.Machine.{Machine, HasAt, reg, text_base}
use Rattle.bk_fixup.specs.Sizes.{reaches}
use Rattle.bk_emit.specs.Code.{distance}
use Rattle.bk_rv_emit.specs.Written.{jump_form, branch_form}
use Rattle.bk_rv_emit_laws.specs.Leaving.{IsWell, Path}
use Rattle.bk_rv_emit_laws.specs.Does.{AreFit}

-- the address of a place of the text
abbrev pub address : ℕ → ℕ
address place = text_base + 4 * place

-- a way to an address that writes x31 alone
pub record Arrives (m : Machine) (to : ℕ) : Type 0 where
  pub after : Machine
  pub path : Path 31 m after
  pub pc : after.pc ≡ to
  pub some : 1 ≤ path.steps

-- two places of the code of a function that begins at a place of the text
abbrev pub AreNear : ℕ → ℕ → ℕ → Type 0
AreNear start at to = (start + at < 2 ^ 26) × (start + to < 2 ^ 26)

-- a jump of any form goes to the place
abbrev pub JumpGoes : Type 0
JumpGoes =
    (size start at to : ℕ) (m : Machine) → IsWell m → AreNear start at to → m.pc ≡ address (start + at) →
    HasAt m.text m.pc (jump_form size (distance at to)) → Arrives m (address (start + to))

-- what was tested is so
abbrev pub is_so : Bool → ℕ → Bool
is_so true x = not (x == 0)
is_so false x = x == 0

-- a branch of any form goes to the place where x31 is so, else behind itself
abbrev pub BranchGoes : Type 0
BranchGoes =
    (bit : Bool) (size start at to : ℕ) (m : Machine) → IsWell m → AreNear start at to → m.pc ≡ address (start + at) →
    HasAt m.text m.pc (branch_form bit size (distance at to)) →
    Arrives m (if is_so bit (reg m.regs 31) then address (start + to) else m.pc + 4 * length (branch_form bit size (distance at to)))

-- a form that reaches fits its fields
abbrev pub JumpFits : Type 0
JumpFits = (size at to : ℕ) → at < 2 ^ 26 → to < 2 ^ 26 → reaches false size at to ≡ true → AreFit (jump_form size (distance at to))

abbrev pub BranchFits : Type 0
BranchFits = (bit : Bool) (size at to : ℕ) → at < 2 ^ 26 → to < 2 ^ 26 → reaches true size at to ≡ true → AreFit (branch_form bit size (distance at to))
