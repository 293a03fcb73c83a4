use Rattle.bk_graph.specs.Reads.{facts, tables_in}
use Rattle.bk_graph.proofs.Ending.{found_more}
use Rattle.bk_graph.proofs.settled.Settled.look_at.Goals as goal

pub returns-clause-found : goal.returns-clause-found
returns-clause-found c =
    let w = c.is_entered.ensures.yes c.if-not-is_entered.false in
    found_more (tables_in c.args.self.now) (facts c.args.self.now) c.args.found.now c.args.block w.0 w.1 c.requires.found c.requires.within w.2 w.3
