use Rattle.std.proofs.Common.{◌≡◌, ◌++◌, drop, string_bytes}
use Rattle.bk_dump.specs.Print.{parameters}
use Rattle.bk_dump.proofs.print.signature.write_parameters.Given as goal

abbrev pub invariant-loop-place : goal.invariant-loop-place
invariant-loop-place l = string_bytes l.out ++ parameters l.place (drop l.place l.types) ≡ string_bytes l.initial.out ++ parameters 0 l.types
