use Rattle.bk_work_laws.proofs.threads_answer_as_one.Goals as goal
use Rattle.bk_work_laws.proofs.Objects.{threads_answer_as_one}

pub returns : goal.returns
returns c = threads_answer_as_one
