use Rattle.std.proofs.Common.{rules, refl}
use Rattle.bk_mean.proofs.machine.Machine.begin.Goals as goal

pub returns-clause-begun : goal.returns-clause-begun
returns-clause-begun c = record {
  window = refl;
  numbers = search rules;
  words = record { out = c.new.result; back = c.new-2.result; regs = c.new-3.result };
  calls = search rules;
  out = c.new.ensures;
  back = c.new-2.ensures;
  regs = c.new-3.ensures.items;
}
