use Rattle.std.proofs.Common.{◌≡◌, ◌++◌, drop}
use Rattle.bk_emit.specs.Code.{branches_from}
use Rattle.bk_emit.specs.Tables.{line_of}
use Rattle.bk_emit.proofs.layout.Lines.branches.Given as goal

abbrev pub invariant-loop-place : goal.invariant-loop-place
invariant-loop-place l =
    l.branches.items ++ branches_from (line_of l.self.starts) l.place (drop l.place l.self.lines.items) ≡ branches_from (line_of l.self.starts) 0 l.self.lines.items
