use Rattle.bk_rv_emit_laws.proofs.Cutting.{lines_cut, words_cut, insts_stand}
use Rattle.bk_rv_emit_laws.proofs.lines_stand.Goals as goal

pub returns-clause-lines : goal.returns-clause-lines
returns-clause-lines c = lines_cut

pub returns-clause-words : goal.returns-clause-words
returns-clause-words c = words_cut

pub returns-clause-instructions : goal.returns-clause-instructions
returns-clause-instructions c = insts_stand
