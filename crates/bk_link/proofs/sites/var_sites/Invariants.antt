use Rattle.std.proofs.Common.{◌≡◌, ◌+◌, ◌++◌, ◌≤◌, drop}
use Rattle.std.specs.Prelude.{sum_by}
use Rattle.std.specs.List.{All}
use Rattle.bk_elf.specs.Layout.{aligned}
use Rattle.bk_link.specs.Sites.{var_sites}
use Rattle.bk_link.specs.Conditions.{IsLow}
use Rattle.bk_link.proofs.sites.var_sites.Given as goal

abbrev pub invariant-loop-var : goal.invariant-loop-var
invariant-loop-var l = record {
  made : l.sites.items ++ var_sites l.address (drop l.var-index l.vars) ≡ var_sites 67108864 l.vars;
  room : l.address + sum_by (λ v. aligned v.size) (drop l.var-index l.vars) ≤ 68157440;
  low : All IsLow l.sites.items;
}
