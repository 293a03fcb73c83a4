use Rattle.std.proofs.Common.{◌≡◌, ◌+◌, ◌++◌, length, drop}
use Rattle.bk_dec64.specs.Halves.{parts, in_words}
use Rattle.bk_dec64.proofs.halves.in_words.Given as goal

abbrev pub invariant-loop-place : goal.invariant-loop-place
invariant-loop-place l =
    let left = parts l.block l.growth.next (drop l.place l.types) (drop l.place l.args) in
    let all = parts l.block l.initial.growth.next l.types l.args in record {
      made : l.growth.made.items ++ left ≡ l.initial.growth.made.items ++ all;
      next : l.growth.next + length left ≡ l.initial.growth.next + length all;
      words : l.words.items ++ in_words l.growth.next (drop l.place l.types) (drop l.place l.args) ≡ in_words l.initial.growth.next l.types l.args;
    }
