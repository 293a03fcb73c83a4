use Rattle.bk_alloc_whole.proofs.Whole.{uses_none}
use Rattle.bk_alloc_whole.proofs.low_pressure_loads_nothing.Goals as goal

pub returns-clause-steps : goal.returns-clause-steps
returns-clause-steps c = λ t pkg f os next r o g sc a free few place. (uses_none t pkg f os next r o g sc a free few place).steps

pub returns-clause-slots : goal.returns-clause-slots
returns-clause-slots c = λ t pkg f os next r o g sc a free few place. (uses_none t pkg f os next r o g sc a free few place).slots
