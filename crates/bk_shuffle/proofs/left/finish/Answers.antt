use Rattle.std.proofs.Common.{sym}
use Rattle.bk_shuffle.proofs.Freed.{free_done}
use Rattle.bk_shuffle.proofs.Takers.{takers_out}
use Rattle.bk_shuffle.specs.Left.{taker, takers}
use Rattle.std.proofs.Common.{◌+◌}
use Rattle.bk_shuffle.proofs.Nexts.{next_least}
use Rattle.bk_shuffle.proofs.Swapped.{done_left, done_counts}
use Rattle.bk_shuffle.proofs.left.finish.Goals as goal

pub release-requires-clause-left : goal.release-requires-clause-left
release-requires-clause-left c = done_left c.args.left.now c.remove.new.self c.args.place c.requires.left c.in-Some.ensures.entries c.in-Some.ensures.ordered

pub release-requires-clause-counts : goal.release-requires-clause-counts
release-requires-clause-counts c = done_counts c.args.left.now c.remove.new.self c.args.place c.in-Some.edge c.args.counts.now c.in-Some.ensures.entries (sym c.in-Some.ensures.value) c.requires.counts

pub release-requires-clause-free : goal.release-requires-clause-free
release-requires-clause-free c =
    free_done c.args.free.now c.args.left.now c.remove.new.self (λ p. takers c.remove.new.self p + taker c.in-Some.edge p) c.args.place c.requires.others c.in-Some.ensures.updates.0
    (λ p. sym (takers_out c.args.left.now c.remove.new.self c.args.place c.in-Some.edge p c.in-Some.ensures.entries (sym c.in-Some.ensures.value)))

pub returns-clause-known : goal.returns-clause-known
returns-clause-known c = λ s. record {
  left = done_left c.args.left.now c.remove.new.self c.args.place c.requires.left c.in-Some.ensures.entries c.in-Some.ensures.ordered;
  counted = c.in_ok-release.ensures.counts;
  freed = c.in_ok-release.ensures.free;
}

pub returns-clause-steps : goal.returns-clause-steps
returns-clause-steps c = next_least c.args.left.now c.remove.new.self c.args.place c.in-Some.edge c.requires.left c.requires.least (sym c.in-Some.ensures.value) c.in-Some.ensures.entries
