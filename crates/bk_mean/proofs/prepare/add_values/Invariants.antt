use Rattle.std.proofs.Common.{List, take, ◌++◌}
use Rattle.bk_func.specs.Records.{ValueRecord, FuncRecord, PackageRecord}
use Rattle.bk_mean.specs.Numbering.{IsNumbering}
use Rattle.bk_mean.specs.Symbols.{IsNaming}
use Rattle.bk_mean.specs.Ready.{AreReadyValues}
use Rattle.bk_mean.proofs.prepare.add_values.Given as goal

abbrev pub invariant-loop-value : goal.invariant-loop-value
invariant-loop-value l = (p : PackageRecord) (f : FuncRecord) → IsNaming p l.symbols → IsNumbering f l.numbering → (before : List ValueRecord) → AreReadyValues p f before l.initial.list.items → AreReadyValues p f (before ++ take l.value-index l.values) l.list.items
