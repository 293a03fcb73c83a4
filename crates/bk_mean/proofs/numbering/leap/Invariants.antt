use Rattle.std.proofs.Common.{◌≡◌, ℕ, length}
use Rattle.bk_func.specs.Records.{FuncRecord}
use Rattle.bk_mean.specs.Numbering.{AreRoots}
use Rattle.bk_mean.proofs.Leaps.{Leaping}
use Rattle.bk_mean.proofs.numbering.leap.Given as goal

abbrev pub invariant-loop-place : goal.invariant-loop-place
invariant-loop-place l = record {
  length : length l.roots ≡ length l.initial.roots;
  leaps : (f : FuncRecord) (n : ℕ) → AreRoots f n l.initial.roots → Leaping f n l.place l.roots;
}
