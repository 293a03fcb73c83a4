use Rattle.bk_share.proofs.Moves.{claims, some_words}
use Rattle.bk_share.proofs.shares.Share.draw.Goals as goal

pub fetch_add-requires : goal.fetch_add-requires
fetch_add-requires c = (c.requires.table, some_words c.args.self.now, claims c.args.self.now.table.shared.key c.args.self.now.table.shared.table_id.slots c.args.pass.now.seat.id c.args.pass.now.seat.me c.requires.part)
