use Rattle.std.proofs.Common.{◌≡◌, length, map, take}
use Rattle.std.specs.Prelude.{flat_map}
use Rattle.bk_func.specs.Records.{FuncRecord}
use Rattle.bk_mean.specs.Numbering.{IsNumbering}
use Rattle.bk_mean.specs.Ready.{KeepsResults}
use Rattle.bk_mean.proofs.prepare.kept_results.Given as goal

abbrev pub invariant-loop-block : goal.invariant-loop-block
invariant-loop-block l = record {
  size : length l.kept.items ≡ length l.numbering.roots.items;
  results : (f : FuncRecord) → IsNumbering f l.numbering → KeepsResults f (flat_map (λ b. b.values) (take l.block-index l.blocks)) (map (λ v. v.items) l.kept.items);
}
