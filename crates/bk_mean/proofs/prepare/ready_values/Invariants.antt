use Rattle.std.proofs.Common.{take}
use Rattle.std.specs.Prelude.{flat_map}
use Rattle.bk_func.specs.Records.{FuncRecord, PackageRecord}
use Rattle.bk_mean.specs.Numbering.{IsNumbering}
use Rattle.bk_mean.specs.Symbols.{IsNaming}
use Rattle.bk_mean.specs.Ready.{AreReadyValues}
use Rattle.bk_mean.proofs.prepare.ready_values.Given as goal

abbrev pub invariant-loop-block : goal.invariant-loop-block
invariant-loop-block l = (p : PackageRecord) (f : FuncRecord) → IsNaming p l.symbols → IsNumbering f l.numbering → AreReadyValues p f (flat_map (λ b. b.values) (take l.block-index l.blocks)) l.list.items
