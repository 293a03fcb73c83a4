use Rattle.std.proofs.Common.{◌∙◌, refl, arith, Some, length-set}
use Rattle.bk_graph.specs.Reads.{tables_in}
use Rattle.bk_graph.proofs.Ruling.{deciding}
use Rattle.bk_graph.proofs.settled.Settled.decide.Goals as goal

pub returns-then-block-len : goal.returns-then-block-len
returns-then-block-len c =
    let s = c.args.self.now in
    record {
      graph = refl;
      right = record {
        sized = record {
          taken = length-set s.taken.items c.args.block (Some c.args.taken) ∙ c.requires.right.sized.taken;
          reached = c.requires.right.sized.reached;
          roots = c.requires.right.sized.roots;
        };
        settling = deciding (tables_in s) s.taken.items s.reached.items s.roots c.requires.right.settling c.args.block c.args.taken
            (omega (arith, c.if-block-len.true, c.len.ensures, s.taken.ok.0)) c.requires.open c.requires.goes;
      };
    }
