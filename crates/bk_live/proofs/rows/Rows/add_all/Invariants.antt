use Rattle.std.proofs.Common.{take}
use Rattle.bk_live.proofs.Rowing.{AddsAt}
use Rattle.bk_live.proofs.rows.Rows.add_all.Given as goal

abbrev pub invariant-loop-place : goal.invariant-loop-place
invariant-loop-place l = AddsAt l.value l.search (take l.place-index l.search.reached.items) l.initial.self l.self
