use Rattle.bk_form.proofs.Rounding.{settles_none}
use Rattle.bk_form.proofs.rounds.settled_ranks.Goals as goal

pub returns : goal.returns
returns c = settles_none c.args.edges.now c.new.result.items c.new.ensures.items
