use Rattle.bk_rv_emit_laws.proofs.Below.{loads_are_below, stores_are_bytes}
use Rattle.bk_rv_emit_laws.proofs.windows_are_bytes.Goals as goal

pub returns-clause-loads : goal.returns-clause-loads
returns-clause-loads c = loads_are_below

pub returns-clause-stores : goal.returns-clause-stores
returns-clause-stores c = stores_are_bytes
