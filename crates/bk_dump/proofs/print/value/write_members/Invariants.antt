use Rattle.std.proofs.Common.{◌≡◌, ◌++◌, drop, string_bytes}
use Rattle.bk_dump.specs.Print.{members}
use Rattle.bk_dump.proofs.print.value.write_members.Given as goal

abbrev pub invariant-loop-ty : goal.invariant-loop-ty
invariant-loop-ty l = string_bytes l.out ++ members (drop l.ty-index l.types) ≡ string_bytes l.initial.out ++ members l.types
