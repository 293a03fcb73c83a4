use Rattle.std.proofs.Common.{◌≡◌, ◌+◌, ◌≤◌, ◌++◌, drop, length}
use Rattle.bk_rewrite.specs.Making.{source, each_made, each_name}
use Rattle.bk_rewrite.proofs.making.+make.Given as goal

abbrev pub invariant-make_args-loop-build : goal.invariant-make_args-loop-build
invariant-make_args-loop-build l =
    let s = source l.plan.func.now l.plan.binds.now l.plan.target in
    let g = l.plan.greatest + 1 in
    record {
      made : l.made.items ++ each_made s (drop l.build-index l.builds) (g + length l.made.items) ≡ l.initial.made.items ++ each_made s l.builds (g + length l.initial.made.items);
      names : l.args.items ++ each_name s (drop l.build-index l.builds) (g + length l.made.items) ≡ each_name s l.builds (g + length l.initial.made.items);
      room : length l.made.items ≤ l.plan.room;
    }
