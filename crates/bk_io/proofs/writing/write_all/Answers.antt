use Rattle.std.proofs.Common.{arith}
use Rattle.std.proofs.lemmas.List.{take_rest}
use Rattle.bk_io.proofs.Pieces.{more}
use Rattle.bk_io.proofs.writing.write_all.Goals as goal

pub loop-at-preserved : goal.loop-at-preserved
loop-at-preserved g c =
    let h = rw (take_rest c.args.bytes.now c.loop-at.at) at c.in_ok-at.ensures.bytes in
    record {
      at = omega (arith, c.in_ok-at.ensures.within);
      so_far = more (g.K.Sink.written c.args.sink.now) (g.K.Sink.written c.loop-at.sink) (g.K.Sink.written c.write.new.self) c.args.bytes.now c.loop-at.at c.in_ok-at.field-0 c.loop-at.invariant.so_far h;
      later = omega (arith, c.in_ok-at.ensures.cause.later, c.loop-at.invariant.later);
    }
