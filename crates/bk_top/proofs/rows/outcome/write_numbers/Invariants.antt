use Rattle.std.proofs.Common.{◌≡◌, ◌++◌, drop, string_bytes}
use Rattle.bk_top.specs.Outcomes.{shown_all}
use Rattle.bk_top.proofs.rows.outcome.write_numbers.Given as goal

abbrev pub invariant-loop-place : goal.invariant-loop-place
invariant-loop-place l = string_bytes l.out ++ shown_all l.target (drop l.place l.types) (drop l.place l.numbers) ≡ string_bytes l.initial.out ++ shown_all l.target l.types l.numbers
