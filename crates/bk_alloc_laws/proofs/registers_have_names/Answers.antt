use Rattle.bk_alloc_laws.proofs.Numbers.{target_names}
use Rattle.bk_alloc_laws.proofs.registers_have_names.Goals as goal

pub returns : goal.returns
returns c = target_names
