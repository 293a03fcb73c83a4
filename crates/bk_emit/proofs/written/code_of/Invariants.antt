use Rattle.std.proofs.Common.{◌≡◌, ◌++◌, drop}
use Rattle.std.specs.Prelude.{slice_index}
use Rattle.bk_emit.specs.Code.{words_from}
use Rattle.bk_emit.specs.Tables.{line_of}
use Rattle.bk_emit.proofs.written.code_of.Given as goal

abbrev pub invariant-loop-index : goal.invariant-loop-index
invariant-loop-index g l =
    l.code.items ++ words_from g.M.Machine.forms (λ n. slice_index l.places (line_of l.lines.starts n)) l.place (drop l.index l.widths) (drop l.index l.lines.lines.items)
    ≡ words_from g.M.Machine.forms (λ n. slice_index l.places (line_of l.lines.starts n)) 0 l.widths l.lines.lines.items
