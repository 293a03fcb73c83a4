use Rattle.std.proofs.Common.{◌≡◌, ◌++◌, drop, string_bytes}
use Rattle.bk_dump.specs.Print.{declarations}
use Rattle.bk_dump.proofs.print.write_declarations.Given as goal

abbrev pub invariant-loop-func : goal.invariant-loop-func
invariant-loop-func l = string_bytes l.out ++ declarations l.pkg (drop l.func-index l.pkg.funcs) l.vars ≡ string_bytes l.initial.out ++ declarations l.pkg l.pkg.funcs l.pkg.vars
