use Rattle.std.proofs.Common.{take, ◌++◌, arith}
use Rattle.std.proofs.lemmas.Grind.{common_steps}
use Rattle.bk_io.proofs.Pieces.{took_more}
use Rattle.bk_io.proofs.reading.read_all.Goals as goal

pub returns-in_err-extend_from_slice-clause-at_memory :
    goal.returns-in_err-extend_from_slice-clause-at_memory
returns-in_err-extend_from_slice-clause-at_memory g c = λ _.
    let piece = take c.in_ok-count.count c.read.new.buf in
    record {
      front = c.loop-piece.bytes.items ++ piece;
      within = grind (arith, common_steps, c.in_ok-count.ensures.within);
      taken = took_more (g.S.Source.left c.args.source.now) (g.S.Source.left c.loop-piece.source) (g.S.Source.left c.read.new.self) c.loop-piece.bytes.items piece c.loop-piece.invariant.taken c.in_ok-count.ensures.bytes.0;
    }
