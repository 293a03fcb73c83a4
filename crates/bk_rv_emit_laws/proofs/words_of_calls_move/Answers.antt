use Rattle.bk_rv_emit_laws.proofs.Outside.{word_loads, word_stores}
use Rattle.bk_rv_emit_laws.proofs.words_of_calls_move.Goals as goal

pub returns-clause-loads : goal.returns-clause-loads
returns-clause-loads c = word_loads

pub returns-clause-stores : goal.returns-clause-stores
returns-clause-stores c = word_stores
