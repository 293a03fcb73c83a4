use Rattle.bk_run_laws.proofs.Induction.{block_law}
use Rattle.bk_rv_run_laws.specs.Relation.{riscv64, standing}
use Rattle.bk_rv_run_laws.proofs.runs_are_followed.Goals as goal

pub returns : goal.returns
returns c x p places one k = block_law riscv64 (standing x p) p places one k
