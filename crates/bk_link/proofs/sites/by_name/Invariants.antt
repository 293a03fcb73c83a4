use Rattle.std.proofs.Common.{◌≡◌, ◌++◌, drop}
use Rattle.bk_link.specs.Sites.{by_name}
use Rattle.bk_link.proofs.sites.by_name.Given as goal

abbrev pub invariant-loop-var : goal.invariant-loop-var
invariant-loop-var l = l.sites.items ++ by_name l.rest (drop l.var-index l.vars) ≡ by_name l.funcs l.vars
