use Rattle.std.proofs.Common.{◌≡◌, ◌++◌, List, length, map, take}
use Rattle.bk_func.specs.Records.{ValueRecord, FuncRecord}
use Rattle.bk_func.specs.Numbers.{room}
use Rattle.bk_mean.specs.Numbering.{IsNumbering}
use Rattle.bk_mean.specs.Ready.{KeepsResults}
use Rattle.bk_mean.proofs.prepare.keep_results.Given as goal

abbrev pub invariant-loop-value : goal.invariant-loop-value
invariant-loop-value l = record {
  size : length l.kept ≡ length l.initial.kept;
  results : (f : FuncRecord) → IsNumbering f l.numbering → (before : List ValueRecord) → length l.initial.kept ≡ room f → KeepsResults f before (map (λ v. v.items) l.initial.kept) →
      KeepsResults f (before ++ take l.value-index l.values) (map (λ v. v.items) l.kept);
}
