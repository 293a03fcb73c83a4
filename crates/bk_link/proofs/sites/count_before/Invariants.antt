use Rattle.std.proofs.Common.{◌≡◌, ◌+◌, drop}
use Rattle.bk_link.specs.Sites.{count_before}
use Rattle.bk_link.proofs.sites.count_before.Given as goal

abbrev pub invariant-loop-place : goal.invariant-loop-place
invariant-loop-place l = count_before l.name l.sites ≡ l.place + count_before l.name (drop l.place l.sites)
