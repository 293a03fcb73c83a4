use Rattle.std.proofs.Common.{◌≡◌, take}
use Rattle.std.specs.List.{filter}
use Rattle.bk_work.specs.Placed.{is_open}
use Rattle.bk_work.proofs.placing.Firsts.left.Given as goal

abbrev pub invariant-loop-place : goal.invariant-loop-place
invariant-loop-place l = l.left.items ≡ filter (is_open l.self.causes.items) (take l.place-index l.order)
