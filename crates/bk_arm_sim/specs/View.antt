-- The simulator's machine as the definitions see it.
pub use Rattle.bk_machine.specs.Runs.{ended}
use Rattle.bk_arm_isa.specs.Machine as M
use Rattle.bk_arm_sim.specs.Status.{flags_of}
use Rattle.bk_arm_sim.specs.declared.machine.Machine.{Machine}

abbrev pub view : Machine → M.Machine
view m = record {
  pc = m.pc;
  regs = m.regs.items;
  flags = flags_of m.flags;
  text = m.text.items;
  pool = m.pool.items;
  window = m.window.items;
  stack = m.stack.items;
  bottom = m.bottom;
}
