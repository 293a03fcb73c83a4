use Rattle.bk_share.proofs.Moves.{cuts_as, some_words}
use Rattle.bk_share.proofs.shares.Share.split.Goals as goal

pub split_seat-seat-requires : goal.split_seat-seat-requires
split_seat-seat-requires c = (c.requires.pass.table, some_words c.args.self.now, cuts_as c.args.self.now.table.shared.key c.args.pass.now.seat.id c.args.pass.now.seat.me.0 c.requires.pass.plan c.requires.parts)
