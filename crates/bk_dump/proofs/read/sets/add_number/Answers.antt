use Rattle.bk_dump.proofs.Sets.{number_last}
use Rattle.bk_dump.proofs.read.sets.add_number.Goals as goal

pub returns : goal.returns
returns c = number_last _ c.args.numbers.now.keys c.insert.new.self.keys c.args.number c.in_ok-insert.ensures.keys c.requires
