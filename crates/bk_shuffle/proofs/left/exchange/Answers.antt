use Rattle.bk_shuffle.proofs.Swapped.{next_of_none, IsSwapped, swapped_left, swapped_counts, swapped_free, swapped_next}
use Rattle.bk_shuffle.proofs.left.exchange.Goals as goal

pub returns-in_default-clause-steps : goal.returns-in_default-clause-steps
returns-in_default-clause-steps c = next_of_none c.args.left.now.entries (λ l. let x = c.in_default.ensures.variant.1 l in absurd cc)

pub release-requires-clause-left : goal.release-requires-clause-left
release-requires-clause-left c =
    let w : IsSwapped c.args.left.now c.pop_first.new.self c.insert.new.self c.in-Some.first = record { first = c.in-Some.ensures.removal; put = c.in_ok-insert.ensures.entries } in
    swapped_left c.args.left.now c.pop_first.new.self c.insert.new.self c.in-Some.first c.requires.known.left w c.in_ok-insert.ensures.ordered

pub release-requires-clause-counts : goal.release-requires-clause-counts
release-requires-clause-counts c =
    let w : IsSwapped c.args.left.now c.pop_first.new.self c.insert.new.self c.in-Some.first = record { first = c.in-Some.ensures.removal; put = c.in_ok-insert.ensures.entries } in
    swapped_counts c.args.left.now c.pop_first.new.self c.insert.new.self c.in-Some.first c.args.counts.now c.requires.known.left w c.requires.known.counted

pub release-requires-clause-free : goal.release-requires-clause-free
release-requires-clause-free c =
    let w : IsSwapped c.args.left.now c.pop_first.new.self c.insert.new.self c.in-Some.first = record { first = c.in-Some.ensures.removal; put = c.in_ok-insert.ensures.entries } in
    swapped_free c.args.left.now c.pop_first.new.self c.insert.new.self c.in-Some.first c.args.free.now c.requires.known.left w c.requires.known.freed

pub returns-clause-known : goal.returns-clause-known
returns-clause-known c =
    let w : IsSwapped c.args.left.now c.pop_first.new.self c.insert.new.self c.in-Some.first = record { first = c.in-Some.ensures.removal; put = c.in_ok-insert.ensures.entries } in
    λ s. record {
      left = swapped_left c.args.left.now c.pop_first.new.self c.insert.new.self c.in-Some.first c.requires.known.left w c.in_ok-insert.ensures.ordered;
      counted = c.in_ok-release.ensures.counts;
      freed = c.in_ok-release.ensures.free;
    }

pub returns-clause-steps : goal.returns-clause-steps
returns-clause-steps c =
    let w : IsSwapped c.args.left.now c.pop_first.new.self c.insert.new.self c.in-Some.first = record { first = c.in-Some.ensures.removal; put = c.in_ok-insert.ensures.entries } in
    swapped_next c.args.left.now c.pop_first.new.self c.insert.new.self c.in-Some.first c.args.free.now c.requires.known.left w c.requires.known.freed c.requires.none
