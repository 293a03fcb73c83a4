use Rattle.bk_share.proofs.Moves.{looking_as, word_fits, pass_after, told_here}
use Rattle.bk_share.proofs.shares.Share.look.Goals as goal

pub load-requires : goal.load-requires
load-requires c = (
  c.requires.pass.table,
  word_fits c.args.self.now c.args.area c.args.cell c.word_of-word.result c.requires.area c.requires.cell c.word_of-word.ensures,
  looking_as c.args.self.now.table.shared.key c.args.self.now.table.shared.table_id.slots c.args.pass.now.seat.id c.args.pass.now.seat.me c.word_of-word.result c.args.area c.args.cell c.requires.pass.plan c.word_of-word.ensures c.requires.pass.part c.requires.area c.requires.cell,
)

pub returns-clause-pass : goal.returns-clause-pass
returns-clause-pass c =
    let s = c.args.self.now in let p = c.args.pass.now in let a = c.args.area in let d = c.args.cell in
    let h = told_here s p a d c.word_of-word.result c.requires.pass c.requires.cell c.word_of-word.ensures in
    pass_after s p (record { seat = c.load.new.seat }) a d c.load.result c.requires.pass c.load.ensures.0 (c.load.ensures.2.0 a d c.requires.area h.0 h.1)
