use Rattle.std.proofs.Common.{◌≡◌, ◌++◌, length, drop}
use Rattle.bk_emit.specs.Code.{widths}
use Rattle.bk_emit.proofs.layout.widths_of.Given as goal

abbrev pub invariant-loop-line : goal.invariant-loop-line
invariant-loop-line l = record {
  words : l.widths.items ++ widths l.rest (drop l.line-index l.lines) ≡ widths l.sizes l.lines;
  long : length l.widths.items ≡ l.line-index;
}
