use Rattle.std.proofs.Common.{◌≡◌, string_bytes, length}
use Rattle.bk_top.proofs.Calls.{Given}
use Rattle.bk_top.proofs.rows.call.numbers_for.Given as goal

abbrev pub invariant-loop-place : goal.invariant-loop-place
invariant-loop-place l = record {
  same : length l.types ≡ length l.words;
  given : Given (λ w. string_bytes w) l.target l.types l.words l.place l.numbers.items;
}
