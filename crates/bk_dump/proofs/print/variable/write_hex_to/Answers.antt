use Rattle.bk_dump.proofs.Hex.{hex_more}
use Rattle.bk_dump.proofs.print.variable.write_hex_to.Goals as goal

pub loop-place-preserved : goal.loop-place-preserved
loop-place-preserved c = hex_more _ _ _ _ _ _ c.loop-place.invariant c.byte_at.ensures c.in_ok-write_hex.ensures
