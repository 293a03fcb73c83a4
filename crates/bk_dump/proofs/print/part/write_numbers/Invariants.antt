use Rattle.std.proofs.Common.{◌≡◌, ◌++◌, drop, string_bytes}
use Rattle.bk_dump.specs.Print.{numbers}
use Rattle.bk_dump.proofs.print.part.write_numbers.Given as goal

abbrev pub invariant-loop-id : goal.invariant-loop-id
invariant-loop-id l = string_bytes l.out ++ numbers l.before (drop l.id-index l.ids) ≡ string_bytes l.initial.out ++ numbers l.before l.ids
