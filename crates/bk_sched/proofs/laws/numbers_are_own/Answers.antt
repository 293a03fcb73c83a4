use Rattle.bk_sched.proofs.Agreeing.{own_numbers}
use Rattle.bk_sched.proofs.laws.numbers_are_own.Goals as goal

pub returns : goal.returns
returns c s f b formed has = own_numbers s f formed b has
