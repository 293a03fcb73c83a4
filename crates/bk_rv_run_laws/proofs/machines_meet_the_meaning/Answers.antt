use Rattle.bk_run_laws.proofs.Induction.{meets}
use Rattle.bk_rv_isa.specs.Machine.{halt}
use Rattle.bk_rv_isa.proofs.Steps.{returned}
use Rattle.bk_rv_run_laws.specs.Relation.{riscv64, HasResults, IsBack}
use Rattle.bk_rv_run_laws.proofs.machines_meet_the_meaning.Goals as goal

pub returns : goal.returns
returns c blocks args words sp w m r = meets riscv64 blocks w m (IsBack args words halt sp m) (HasResults args sp) r (λ x v n k. (returned n k.pc, k.window, k.results))
