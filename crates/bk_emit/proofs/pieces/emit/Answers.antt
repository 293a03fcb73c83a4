use Rattle.std.proofs.Common.{◌∙◌}
use Rattle.bk_emit.specs.Tables.{look, line_of}
use Rattle.bk_emit.proofs.Assembled.{piece_is}
use Rattle.bk_emit.proofs.pieces.emit.Goals as goal

pub returns : goal.returns
returns g c =
    piece_is g.M.Machine.forms c.args.func.now c.args.placed.now c.args.frame c.args.keys.now _ (look c.in_ok-table.table.entries) (line_of c.in_ok-lines.lines.starts) c.in_ok-lines.lines.lines.items
    c.in_ok-table.ensures.entries c.in_ok-lines.ensures.lines c.in_ok-lines.ensures.starts c.in_ok-piece.ensures.written (c.in_ok-piece.ensures.types ∙ c.in_ok-table.ensures.types) c.in_ok-piece.ensures.frame
