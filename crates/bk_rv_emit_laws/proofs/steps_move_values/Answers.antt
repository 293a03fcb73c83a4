use Rattle.bk_rv_emit_laws.proofs.Slots.{value_makes}
use Rattle.bk_rv_emit_laws.proofs.Far.{load_makes, store_makes, move_makes}
use Rattle.bk_rv_emit_laws.proofs.Sequences.{compute_makes, steps_make}
use Rattle.bk_rv_emit_laws.proofs.steps_move_values.Goals as goal

pub returns-clause-values : goal.returns-clause-values
returns-clause-values c = value_makes

pub returns-clause-loads : goal.returns-clause-loads
returns-clause-loads c = load_makes

pub returns-clause-stores : goal.returns-clause-stores
returns-clause-stores c = store_makes

pub returns-clause-moves : goal.returns-clause-moves
returns-clause-moves c = move_makes

pub returns-clause-computes : goal.returns-clause-computes
returns-clause-computes c = compute_makes

pub returns-clause-sequences : goal.returns-clause-sequences
returns-clause-sequences c = steps_make
