use Rattle.bk_rv_emit_laws.proofs.Effects.{load_does, store_does, store_bool_does, check_passes, check_traps, trap_does}
use Rattle.bk_rv_emit_laws.proofs.Pieces.{zero_does}
use Rattle.bk_rv_emit_laws.proofs.Copies.{move_does}
use Rattle.bk_rv_emit_laws.proofs.units_reach_memory.Goals as goal

pub returns-clause-loads : goal.returns-clause-loads
returns-clause-loads c = load_does

pub returns-clause-stores : goal.returns-clause-stores
returns-clause-stores c = store_does

pub returns-clause-bools : goal.returns-clause-bools
returns-clause-bools c = store_bool_does

pub returns-clause-passes : goal.returns-clause-passes
returns-clause-passes c = check_passes

pub returns-clause-fails : goal.returns-clause-fails
returns-clause-fails c = check_traps

pub returns-clause-traps : goal.returns-clause-traps
returns-clause-traps c = trap_does

pub returns-clause-zeros : goal.returns-clause-zeros
returns-clause-zeros c = zero_does

pub returns-clause-moves : goal.returns-clause-moves
returns-clause-moves c = move_does
