use Rattle.std.proofs.Common.{◌≡◌, ◌++◌, drop, string_bytes}
use Rattle.bk_dump.specs.Print.{variable_lines}
use Rattle.bk_dump.proofs.print.variable.write_variables.Given as goal

abbrev pub invariant-loop-var : goal.invariant-loop-var
invariant-loop-var l = string_bytes l.out ++ variable_lines l.pkg.names (drop l.var-index l.vars) ≡ string_bytes l.initial.out ++ variable_lines l.pkg.names l.vars
