use Rattle.std.proofs.Common.{rules}
use Rattle.std.specs.Slots.{slots_items}
use Rattle.bk_share.proofs.Moves.{fills}
use Rattle.bk_share.proofs.make.fill.Goals as goal

pub loop-k-preserved : goal.loop-k-preserved
loop-k-preserved c = record { len = c.loop-k.invariant.len; same = fills c.loop-k.row.items (slots_items c.args.closed.now.words) c.args.from c.loop-k.k c.word.result (search rules) c.word.ensures c.loop-k.invariant.same }
