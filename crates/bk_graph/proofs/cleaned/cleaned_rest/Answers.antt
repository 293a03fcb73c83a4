use Rattle.bk_graph.specs.Marks.{marked}
use Rattle.bk_graph.specs.Reads.{facts, tables_in}
use Rattle.bk_graph.proofs.Cleaning.{graph_tables, is_cleaned}
use Rattle.bk_graph.proofs.cleaned.cleaned_rest.Goals as goal

pub returns : goal.returns
returns c =
    let s = c.args.settled.now in
    is_cleaned c.args.func.now c.in_ok-left.left (tables_in s) (facts s) (marked c.in_ok-needed.needed.needed.items) (graph_tables c.args.func.now s.graph.now c.requires.graph)
    c.requires.sound c.requires.closed c.in_ok-needed.ensures c.in_ok-left.ensures
