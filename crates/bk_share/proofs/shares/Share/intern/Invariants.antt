use Rattle.bk_share.specs.Passes.{view}
use Rattle.bk_share.proofs.Walk.{Walking}
use Rattle.bk_share.proofs.shares.Share.intern.Given as goal

abbrev pub invariant-loop-step : goal.invariant-loop-step
invariant-loop-step l = Walking l.self (view l.initial.pass) l.pass l.area l.key l.step l.cell
