use Rattle.std.proofs.Common.{◌≡◌, ◌++◌, string_bytes}
use Rattle.bk_dump.specs.Print.{hex_to}
use Rattle.bk_dump.proofs.print.variable.write_hex_to.Given as goal

abbrev pub invariant-loop-place : goal.invariant-loop-place
invariant-loop-place l = string_bytes l.out ≡ string_bytes l.initial.out ++ hex_to l.bytes l.place
