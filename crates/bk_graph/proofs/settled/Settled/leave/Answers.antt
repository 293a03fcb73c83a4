use Rattle.std.proofs.Common.{◌∙◌, refl, false, length-set}
use Rattle.bk_graph.specs.Reads.{tables_in}
use Rattle.bk_graph.proofs.Ruling.{leaving}
use Rattle.bk_graph.proofs.settled.Settled.leave.Goals as goal

pub returns : goal.returns
returns c =
    let s = c.args.self.now in
    record {
      graph = refl;
      right = record {
        sized = record {
          taken = c.requires.right.sized.taken;
          reached = length-set s.reached.items c.args.block false ∙ c.requires.right.sized.reached;
          roots = c.requires.right.sized.roots;
        };
        settling = leaving (tables_in s) s.taken.items s.reached.items s.roots c.requires.right.settling c.args.block c.requires.later c.requires.within c.requires.alone;
      };
    }
