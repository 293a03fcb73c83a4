-- The simulator's machine as the definitions see it.
pub use Rattle.bk_machine.specs.Runs.{ended}
use Rattle.bk_rv_isa.specs.Machine as M
use Rattle.bk_rv_sim.specs.declared.machine.Machine.{Machine}

abbrev pub view : Machine → M.Machine
view m = record { pc = m.pc; regs = m.regs.items; text = m.text.items; pool = m.pool.items; window = m.window.items; stack = m.stack.items; bottom = m.bottom }
