use Rattle.std.proofs.Common.{◌≡◌, take, string_bytes}
use Rattle.std.specs.List.{flat_map}
use Rattle.bk_top.specs.Refusals.{func_line}
use Rattle.bk_top.proofs.line.func_lines.Given as goal

abbrev pub invariant-loop-it : goal.invariant-loop-it
invariant-loop-it l = string_bytes l.text ≡ flat_map func_line (take l.it-index l.refused.items)
