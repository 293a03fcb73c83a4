use Rattle.bk_share.proofs.Moves.{merges_as, some_words}
use Rattle.bk_share.proofs.shares.Share.join.Goals as goal

pub join_seat-requires : goal.join_seat-requires
join_seat-requires c = (
  c.requires.pass.table,
  c.requires.other.table,
  c.requires.other.slots,
  some_words c.args.self.now,
  merges_as c.args.self.now.table.shared.key c.args.pass.now.seat.id c.args.pass.now.seat.me.0 c.args.other.seat.id c.args.other.seat.me.0 c.requires.pass.plan c.requires.pass.part c.requires.other.part,
)
