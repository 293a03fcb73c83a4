use Rattle.std.proofs.Common.{◌≡◌, ◌*◌, ◌≤◌, take}
use Rattle.std.specs.Prelude.{sum_by}
use Rattle.bk_elf.specs.Layout.{aligned}
use Rattle.bk_link.proofs.linkable.window_size.Given as goal

abbrev pub invariant-loop-var : goal.invariant-loop-var
invariant-loop-var l = (l.size ≡ sum_by (λ v. aligned v.size) (take l.var-index l.vars)) × (l.size ≤ 4294967296 * l.var-index)
