use Rattle.std.proofs.Common.{refl}
use Rattle.bk_graph.specs.Reads.{tables_in}
use Rattle.bk_graph.proofs.Ruling.{pruning}
use Rattle.bk_graph.proofs.settled.Settled.prune.Goals as goal

pub returns-clause-step : goal.returns-clause-step
returns-clause-step c =
    let s = c.args.self.now in
    record {
      graph = refl;
      right = record {
        sized = record { taken = c.requires.sized.taken; reached = c.in_ok-found.ensures.found.size; roots = c.requires.sized.roots };
        settling = pruning (tables_in s) s.taken.items s.reached.items s.roots c.requires.settling c.requires.sized.reached c.in_ok-found.found.items c.in_ok-found.ensures.found
            c.in_ok-found.ensures.last;
      };
    }
