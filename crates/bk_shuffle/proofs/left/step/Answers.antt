use Rattle.std.proofs.Common.{◌∙◌}
use Rattle.bk_shuffle.proofs.Freed.{free_others}
use Rattle.bk_shuffle.proofs.Swapped.{no_keys, least_of, free_same}
use Rattle.bk_shuffle.proofs.left.step.Goals as goal

pub finish-requires-clause-least : goal.finish-requires-clause-least
finish-requires-clause-least c = least_of c.args.free.now c.args.left.now c.in-Some.place c.requires.freed c.in-Some.ensures.member c.in-Some.ensures.least

pub finish-requires-clause-others : goal.finish-requires-clause-others
finish-requires-clause-others c = free_others c.args.free.now c.pop_first.new.self c.args.left.now c.in-Some.place c.requires.freed c.in-Some.ensures.updates.0

pub exchange-requires-clause-known : goal.exchange-requires-clause-known
exchange-requires-clause-known c = record {
  left = c.requires.left;
  counted = c.requires.counted;
  freed = free_same c.args.free.now c.pop_first.new.self c.args.left.now c.in-None.ensures.unchanged c.requires.freed;
}

pub exchange-requires-clause-none : goal.exchange-requires-clause-none
exchange-requires-clause-none c = c.in-None.ensures.unchanged ∙ no_keys c.args.free.now.keys (λ l. let x = c.in-None.ensures.variant.1 l in absurd cc)
