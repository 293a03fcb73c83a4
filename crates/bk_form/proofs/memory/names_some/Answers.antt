use Rattle.bk_places.specs.Named.{NamesBy}
use Rattle.bk_form.proofs.Remembered.{some_is}
use Rattle.bk_form.proofs.memory.names_some.Goals as goal

pub returns : goal.returns
returns c = some_is (λ n. NamesBy c.args.value.now n) c.memory_argument.result c.is_some.result c.is_some.ensures c.memory_argument.ensures
