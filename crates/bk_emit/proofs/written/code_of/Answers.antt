use Rattle.std.proofs.Common.{refl, ℕ, get_or}
use Rattle.std.specs.Prelude.{slice_index}
use Rattle.bk_emit.specs.Code.{words_from}
use Rattle.bk_emit.specs.Tables.{line_of}
use Rattle.bk_emit.proofs.Writing.{written_more}
use Rattle.bk_emit.proofs.written.code_of.Goals as goal

pub loop-index-preserved : goal.loop-index-preserved
loop-index-preserved g c =
    let goals = λ (n : ℕ). slice_index c.args.places.now (line_of c.args.lines.now.starts n) in
    written_more g.M.Machine.forms goals c.args.widths.now c.args.lines.now.lines.items c.loop-index.index c.loop-index.place (get_or c.args.widths.now c.loop-index.index 0) c.index-line.result.now c.goal_of-goal.result c.in_ok-place.place c.loop-index.code.items c.put_line.new.code.items (words_from g.M.Machine.forms goals 0 c.args.widths.now c.args.lines.now.lines.items)
    c.loop-index-test.true c.requires refl c.index-line.ensures c.goal_of-goal.ensures c.in_ok-put_line.ensures c.in_ok-place.ensures c.loop-index.invariant
