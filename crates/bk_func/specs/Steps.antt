-- What contracts see of the steps of a placed block.
use Rattle.bk_func.specs.declared.placed.Step.{Step}
use Rattle.bk_func.specs.declared.placed.Step.TheVariants.{Load, Store, Do, Move}
use Rattle.bk_func.specs.Records.{StepRecord, load, store, do_value, move}

abbrev pub seen_step : Step → StepRecord
seen_step (Load r s) = load r s
seen_step (Store r s) = store r s
seen_step (Do v xs r) = do_value v xs.items r
seen_step (Move a b) = move a b
