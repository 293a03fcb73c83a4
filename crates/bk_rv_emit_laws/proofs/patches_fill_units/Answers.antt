use Rattle.bk_rv_emit_laws.proofs.Patching.{addr_becomes, pool_becomes, call_becomes}
use Rattle.bk_rv_emit_laws.proofs.patches_fill_units.Goals as goal

pub returns-clause-addresses : goal.returns-clause-addresses
returns-clause-addresses c = addr_becomes

pub returns-clause-constants : goal.returns-clause-constants
returns-clause-constants c = pool_becomes

pub returns-clause-calls : goal.returns-clause-calls
returns-clause-calls c = call_becomes
