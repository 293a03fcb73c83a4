use Rattle.bk_core.specs.Events.{start}
use Rattle.bk_core.proofs.Runs.{starts, runs}
use Rattle.bk_core.proofs.laws.every_run.Goals as goal

pub returns : goal.returns
returns c = λ announced parts events three some can. runs announced parts (start announced parts) events (starts announced parts some three) can
