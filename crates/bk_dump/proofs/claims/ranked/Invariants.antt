use Rattle.std.proofs.Common.{◌≡◌, ◌++◌, drop}
use Rattle.bk_dump.specs.ClaimOrder.{ranked_from}
use Rattle.bk_dump.proofs.claims.ranked.Given as goal

abbrev pub invariant-loop-place : goal.invariant-loop-place
invariant-loop-place l = l.ranked.items ++ ranked_from l.place (drop l.place l.funcs) ≡ ranked_from 0 l.funcs
