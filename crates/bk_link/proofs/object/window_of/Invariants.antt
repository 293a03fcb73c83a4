use Rattle.std.proofs.Common.{◌≡◌, ◌++◌, ◌≤◌, drop}
use Rattle.std.specs.Prelude.{sum_by}
use Rattle.bk_elf.specs.Layout.{aligned}
use Rattle.bk_link.specs.Linked.{window_of}
use Rattle.bk_link.proofs.object.window_of.Given as goal

abbrev pub invariant-loop-var : goal.invariant-loop-var
invariant-loop-var l = record {
  made : l.window.items ++ window_of (drop l.var-index l.vars) ≡ window_of l.vars;
  room : sum_by (λ v. aligned v.size) (drop l.var-index l.vars) ≤ 1048576;
}
