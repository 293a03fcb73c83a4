use Rattle.std.proofs.Common.{◌≡◌, ◌++◌, drop, string_bytes}
use Rattle.bk_dump.specs.Print.{listed}
use Rattle.bk_dump.proofs.print.signature.write_listed.Given as goal

abbrev pub invariant-loop-place : goal.invariant-loop-place
invariant-loop-place l = string_bytes l.out ++ listed l.place (drop l.place l.types) ≡ string_bytes l.initial.out ++ listed 0 l.types
