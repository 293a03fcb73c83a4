use Rattle.bk_rv_emit_laws.proofs.Entry.{entry_enters, entry_traps}
use Rattle.bk_rv_emit_laws.proofs.Leave.{leave_returns}
use Rattle.bk_rv_emit_laws.proofs.Turns.{call_calls}
use Rattle.bk_rv_emit_laws.proofs.calls_begin_and_end.Goals as goal

pub returns-clause-entries : goal.returns-clause-entries
returns-clause-entries c = entry_enters

pub returns-clause-exhausted : goal.returns-clause-exhausted
returns-clause-exhausted c = entry_traps

pub returns-clause-endings : goal.returns-clause-endings
returns-clause-endings c = leave_returns

pub returns-clause-calls : goal.returns-clause-calls
returns-clause-calls c = call_calls
