use Rattle.bk_share.proofs.Moves.{taking_as, word_fits, took, taken_free, taken_full}
use Rattle.bk_share.proofs.shares.Share.take.Goals as goal

pub compare_exchange-found-requires : goal.compare_exchange-found-requires
compare_exchange-found-requires c = (
  c.requires.pass.table,
  word_fits c.args.self.now c.args.area c.args.cell c.word_of-word.result c.requires.area c.requires.cell c.word_of-word.ensures,
  taking_as c.args.self.now.table.shared.key c.args.self.now.table.shared.table_id.slots c.args.pass.now.seat.id c.args.pass.now.seat.me c.word_of-word.result c.args.area c.args.cell c.args.key c.requires.pass.plan c.word_of-word.ensures c.requires.pass.part c.requires.area c.requires.cell c.requires.key.0 c.requires.key.1 c.requires.way,
)

pub returns-then-found-eq0-clause-pass : goal.returns-then-found-eq0-clause-pass
returns-then-found-eq0-clause-pass c = (took c.args.self.now c.args.pass.now c.compare_exchange-found.new.seat c.args.self.now.table.shared.table_id.slots c.word_of-word.result c.args.area c.args.cell c.compare_exchange-found.result c.args.key c.args.key c.requires.pass c.requires.area c.requires.cell c.word_of-word.ensures c.compare_exchange-found.ensures.0 c.compare_exchange-found.ensures.2 (taken_free c.compare_exchange-found.result c.args.key c.if-found-eq0.true)).0

pub returns-then-found-eq0-clause-took : goal.returns-then-found-eq0-clause-took
returns-then-found-eq0-clause-took c = (c.requires.key.0, (took c.args.self.now c.args.pass.now c.compare_exchange-found.new.seat c.args.self.now.table.shared.table_id.slots c.word_of-word.result c.args.area c.args.cell c.compare_exchange-found.result c.args.key c.args.key c.requires.pass c.requires.area c.requires.cell c.word_of-word.ensures c.compare_exchange-found.ensures.0 c.compare_exchange-found.ensures.2 (taken_free c.compare_exchange-found.result c.args.key c.if-found-eq0.true)).1)

pub returns-else-found-eq0-clause-pass : goal.returns-else-found-eq0-clause-pass
returns-else-found-eq0-clause-pass c = (took c.args.self.now c.args.pass.now c.compare_exchange-found.new.seat c.args.self.now.table.shared.table_id.slots c.word_of-word.result c.args.area c.args.cell c.compare_exchange-found.result c.args.key c.compare_exchange-found.result c.requires.pass c.requires.area c.requires.cell c.word_of-word.ensures c.compare_exchange-found.ensures.0 c.compare_exchange-found.ensures.2 (taken_full c.compare_exchange-found.result c.args.key c.if-found-eq0.false)).0

pub returns-else-found-eq0-clause-took : goal.returns-else-found-eq0-clause-took
returns-else-found-eq0-clause-took c = (c.if-found-eq0.false, (took c.args.self.now c.args.pass.now c.compare_exchange-found.new.seat c.args.self.now.table.shared.table_id.slots c.word_of-word.result c.args.area c.args.cell c.compare_exchange-found.result c.args.key c.compare_exchange-found.result c.requires.pass c.requires.area c.requires.cell c.word_of-word.ensures c.compare_exchange-found.ensures.0 c.compare_exchange-found.ensures.2 (taken_full c.compare_exchange-found.result c.args.key c.if-found-eq0.false)).1)
