use Rattle.bk_rewrite_laws.proofs.ArmList.{arm_numbered}
use Rattle.bk_rewrite_laws.proofs.Dec64List.{dec64_numbered}
use Rattle.bk_rewrite_laws.proofs.GenericList.{generic_numbered}
use Rattle.bk_rewrite_laws.proofs.RvList.{rv_numbered}
use Rattle.bk_rewrite_laws.proofs.lists_are_numbered.Goals as goal

pub returns-clause-generic : goal.returns-clause-generic
returns-clause-generic c = generic_numbered

pub returns-clause-dec64 : goal.returns-clause-dec64
returns-clause-dec64 c = dec64_numbered

pub returns-clause-arm : goal.returns-clause-arm
returns-clause-arm c = arm_numbered

pub returns-clause-rv : goal.returns-clause-rv
returns-clause-rv c = rv_numbered
