use Rattle.std.proofs.Common.{◌≡◌, [], map, take, drop}
use Rattle.bk_dump.specs.Drafts.{are_fresh}
use Rattle.bk_dump.proofs.Fresh.{names_of}
use Rattle.bk_dump.proofs.read.declare.fresh_names.Given as goal

abbrev pub invariant-loop-parameter : goal.invariant-loop-parameter
invariant-loop-parameter l = record {
  so_far : map (λ n. n.now) l.names.keys ≡ names_of (take l.parameter-index l.parameters);
  left : are_fresh (map (λ n. n.now) l.names.keys) (names_of (drop l.parameter-index l.parameters)) ≡ are_fresh [] (names_of l.parameters);
}
