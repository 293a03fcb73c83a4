use Rattle.std.proofs.Common.{sym, subst, MatchResult, arith}
use Rattle.bk_func.specs.declared.form.FormKind.TheVariants.{Missing}
use Rattle.bk_form.specs.declared.names.Scope.{Scope}
use Rattle.bk_form.specs.Judged.{KeepsBefore, IsCause}
use Rattle.bk_form.specs.Names.{measure}
use Rattle.bk_form.proofs.check_values.Goals as goal

pub new-requires-clause-named : goal.new-requires-clause-named
new-requires-clause-named c = c.requires.kept.kinds Missing (omega arith)

pub check_flow-requires-clause-kept : goal.check_flow-requires-clause-kept
check_flow-requires-clause-kept c = subst (λ (w : Scope). KeepsBefore (measure w) w.func.now 3) (sym c.in_ok-flow.ensures.scope) c.requires.kept

pub returns : goal.returns
returns c =
    subst (λ (w : Scope). MatchResult c.check_flow.result (λ x. KeepsBefore (measure w) w.func.now 8) (IsCause (measure w) w.func.now)) c.in_ok-flow.ensures.scope
    c.check_flow.ensures
