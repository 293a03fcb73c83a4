use Rattle.bk_elf.proofs.Written.{written_loads}
use Rattle.bk_elf.proofs.writer.write_elf.Goals as goal

pub returns-clause-loads : goal.returns-clause-loads
returns-clause-loads c = rw c.in_ok-written.ensures (written_loads c.args.object.now c.requires c.are_typed.ensures)
