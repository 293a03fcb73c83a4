use Rattle.std.proofs.Common.{◌≡◌, ◌++◌, drop}
use Rattle.bk_emit.specs.Code.{waits_from}
use Rattle.bk_emit.proofs.written.handles_of.Given as goal

abbrev pub invariant-loop-index : goal.invariant-loop-index
invariant-loop-index l =
    l.handles.items ++ waits_from l.place (drop l.index l.widths) (drop l.index l.lines) ≡ waits_from 0 l.widths l.lines
