use Rattle.std.proofs.Common.{◌≡◌, length}
use Rattle.std.specs.Vec.Iter.{into_iter_items, into_iter_len}
use Rattle.bk_dump.specs.Resolved.{each, block_of}
use Rattle.bk_dump.proofs.Each.{before}
use Rattle.bk_dump.proofs.read.scope.Scope.blocks_of.Given as goal

abbrev pub invariant-loop-draft : goal.invariant-loop-draft
invariant-loop-draft l = record {
  same : before l.blocks.items (each (block_of l.self) (into_iter_items l.draft-iterator)) ≡ each (block_of l.self) l.fn.drafts.items;
  counted : into_iter_len l.draft-iterator ≡ length (into_iter_items l.draft-iterator);
}
