use Rattle.std.proofs.Common.{◌≡◌, ◌+◌, ◌++◌, length, drop}
use Rattle.bk_dec64.specs.Halves.{halves_in, numbers}
use Rattle.bk_dec64.proofs.halves.halves_in.Given as goal

abbrev pub invariant-loop-place : goal.invariant-loop-place
invariant-loop-place l =
    let left = halves_in l.family l.growth.next (drop l.place l.blocks) (drop l.place l.args) in
    let all = halves_in l.family l.initial.growth.next l.blocks l.args in record {
      made : l.growth.made.items ++ left ≡ l.initial.growth.made.items ++ all;
      next : l.growth.next + length left ≡ l.initial.growth.next + length all;
      numbers : l.halves.items ++ numbers left ≡ numbers all;
    }
