use Rattle.std.proofs.Common.{◌≡◌, ◌++◌, drop, string_bytes}
use Rattle.bk_dump.specs.Print.{value_lines}
use Rattle.bk_dump.proofs.print.value.write_values.Given as goal

abbrev pub invariant-loop-value : goal.invariant-loop-value
invariant-loop-value l = string_bytes l.out ++ value_lines l.pkg l.sig (drop l.value-index l.values) ≡ string_bytes l.initial.out ++ value_lines l.pkg l.sig l.values
