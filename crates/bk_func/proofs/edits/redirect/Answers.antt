use Rattle.bk_func.proofs.Blocks.{kept_place}
use Rattle.bk_func.proofs.edits.redirect.Goals as goal

pub set_pred-requires : goal.set_pred-requires
set_pred-requires c = kept_place c.args.from c.args.index _ c.args.to _ _ c.set_succ.ensures c.requires.successor
