use Rattle.std.proofs.Common.{◌≡◌, ◌≤◌, drop, length}
use Rattle.bk_func.specs.Arguments.{fit}
use Rattle.bk_func.proofs.signature.fit.Given as goal

abbrev pub invariant-loop-place : goal.invariant-loop-place
invariant-loop-place l = record {
  is : fit l.target (drop l.place l.types) (drop l.place l.numbers) ≡ fit l.target l.types l.numbers;
  within : l.place ≤ length l.numbers;
}
