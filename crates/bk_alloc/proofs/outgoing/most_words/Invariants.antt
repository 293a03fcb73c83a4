-- the calls of the blocks so far
use Rattle.std.proofs.Common.{take}
use Rattle.bk_alloc.specs.Outgoing.{AreMost, calls}
use Rattle.bk_alloc.proofs.outgoing.most_words.Given as goal

abbrev pub invariant-loop-block : goal.invariant-loop-block
invariant-loop-block l = AreMost l.target (calls (take l.block-index l.blocks)) l.pkg.funcs l.most
