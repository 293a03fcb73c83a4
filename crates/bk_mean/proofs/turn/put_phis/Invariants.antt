use Rattle.std.proofs.Common.{◌≡◌, drop}
use Rattle.bk_mean.specs.Left.{put_all}
use Rattle.bk_mean.proofs.turn.put_phis.Given as goal

abbrev pub invariant-loop-index : goal.invariant-loop-index
invariant-loop-index l = put_all l.first (drop l.index l.phis) (drop l.index l.given) l.numbers ≡ put_all l.first l.phis l.given l.fn.numbers
