use Rattle.std.proofs.Common.{◌≡◌, length, map}
use Rattle.std.specs.Vec.Iter.{into_iter_items, into_iter_len}
use Rattle.bk_dump.specs.Resolved.{each, func_of}
use Rattle.bk_dump.proofs.Each.{before}
use Rattle.bk_dump.proofs.read.resolve.funcs_of.Given as goal

abbrev pub invariant-loop-draft : goal.invariant-loop-draft
invariant-loop-draft l = record {
  same : before l.funcs.items (each (func_of (map (λ n. n.now) l.names.keys)) (into_iter_items l.draft-iterator)) ≡ each (func_of (map (λ n. n.now) l.names.keys)) l.fn.drafts.items;
  counted : into_iter_len l.draft-iterator ≡ length (into_iter_items l.draft-iterator);
}
