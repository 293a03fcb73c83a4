use Rattle.std.proofs.Common.{◌≡◌, drop}
use Rattle.bk_rule.specs.Bindings.{bound_env}
use Rattle.bk_rule.specs.Expressions.{hold_each}
use Rattle.bk_rule.proofs.values.holds.Given as goal

abbrev pub invariant-loop-condition : goal.invariant-loop-condition
invariant-loop-condition l =
    hold_each l.target (bound_env l.func l.binds) (drop l.condition-index l.rule.conds) ≡ hold_each l.target (bound_env l.func l.binds) l.rule.conds
