use Rattle.std.proofs.Common.{◌≡◌, [], map, replicate}
use Rattle.bk_live.proofs.rows.Rows.new.Given as goal

abbrev pub invariant-loop : goal.invariant-loop
invariant-loop l = map (λ list. list.items) l.rows.items ≡ replicate l.counter []
