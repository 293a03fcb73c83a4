use Rattle.bk_form.specs.Memories.{func_of}
use Rattle.bk_form.proofs.Remembered.{TakenUpTo}
use Rattle.bk_form.proofs.memory.Memories.takes_before.Given as goal

abbrev pub invariant-loop-index : goal.invariant-loop-index
invariant-loop-index l = TakenUpTo (func_of l.self) l.preds l.ids l.index
