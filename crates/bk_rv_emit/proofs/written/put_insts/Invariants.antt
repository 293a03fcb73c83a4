use Rattle.std.proofs.Common.{◌≡◌, ◌++◌, map, drop}
use Rattle.bk_rv_emit.specs.Lines.{word_of}
use Rattle.bk_rv_emit.proofs.written.put_insts.Given as goal

abbrev pub invariant-loop-inst : goal.invariant-loop-inst
invariant-loop-inst l = l.code.items ++ map word_of (drop l.inst-index l.insts) ≡ l.initial.code.items ++ map word_of l.insts
