use Rattle.std.proofs.Common.{◌≡◌, map, take}
use Rattle.bk_work.proofs.package.frames.Given as goal

abbrev pub invariant-loop-it : goal.invariant-loop-it
invariant-loop-it l = l.frames.items ≡ map (λ it. it.frame) (take l.it-index l.framed)
