use Rattle.std.proofs.Common.{◌+◌, ◌*◌, arith}
use Rattle.bk_rv_sim.proofs.Cells.{pushed}
use Rattle.bk_rv_sim.proofs.starting.push_cells.Goals as goal

pub returns : goal.returns
returns c =
    pushed c.args.out.now.items c.resize.new.self.items c.push_each.new.out.items c.args.args.now c.min-low.result (c.len.result + 8 * c.min-low.result) c.args.out.now.len
    c.min-low.ensures
    (omega arith)
    (omega arith)
    c.in_ok-resize.ensures.items
    c.in_ok-push_each.ensures
