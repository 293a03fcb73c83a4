use Rattle.std.proofs.Common.{◌≡◌, ◌++◌, drop, string_bytes}
use Rattle.bk_top.specs.Outcomes.{hex_all}
use Rattle.bk_top.proofs.rows.outcome.write_bytes.Given as goal

abbrev pub invariant-loop-byte : goal.invariant-loop-byte
invariant-loop-byte l = string_bytes l.out ++ hex_all (drop l.byte-index l.bytes) ≡ string_bytes l.initial.out ++ hex_all l.bytes
