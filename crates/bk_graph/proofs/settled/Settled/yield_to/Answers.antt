use Rattle.std.proofs.Common.{◌∙◌, refl}
use Rattle.bk_graph.specs.Reads.{tables_in}
use Rattle.bk_graph.proofs.Yielding.{yielding}
use Rattle.bk_graph.proofs.settled.Settled.yield_to.Goals as goal

pub returns : goal.returns
returns c =
    let s = c.args.self.now in
    record {
      graph = refl;
      right = record {
        sized = record {
          taken = c.requires.right.sized.taken;
          reached = c.requires.right.sized.reached;
          roots = c.bypass.ensures.size ∙ c.requires.right.sized.roots;
        };
        settling = yielding (tables_in s) s.taken.items s.reached.items s.roots c.bypass.new.roots c.requires.right.settling c.requires.right.sized.roots c.args.place c.args.other
            c.requires.one c.bypass.ensures;
      };
    }
