use Rattle.bk_arm_isa.proofs.Memory.{loads_stored, loads_apart}
use Rattle.bk_arm_isa.proofs.laws.memory_keeps_its_bytes.Goals as goal

pub returns-clause-same : goal.returns-clause-same
returns-clause-same c = loads_stored

pub returns-clause-others : goal.returns-clause-others
returns-clause-others c = loads_apart
