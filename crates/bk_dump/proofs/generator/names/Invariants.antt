use Rattle.std.proofs.Common.{◌≡◌, map, string_bytes}
use Rattle.bk_dump.specs.Generate.{names_to}
use Rattle.bk_dump.proofs.generator.names.Given as goal

abbrev pub invariant-loop-number : goal.invariant-loop-number
invariant-loop-number l = map string_bytes l.names.items ≡ names_to l.number-counter
