use Rattle.std.proofs.Common.{◌↔◌, sym, subst}
use Rattle.std.specs.Bool.{IsTrue}
use Rattle.bk_func.specs.declared.parts.Kind.{Kind}
use Rattle.bk_func.specs.Form.Shapes.{FitsControl}
use Rattle.bk_form.specs.Names.{measure}
use Rattle.bk_form.proofs.types.kind_fits.Goals as goal

pub returns-in-Ret : goal.returns-in-Ret
returns-in-Ret c =
    subst (λ (k : Kind). IsTrue c.is_ending.result ↔ FitsControl (measure c.args.scope.now) c.args.scope.now.func.now c.args.control.now k) (sym c.in-Ret.is) c.is_ending.ensures

pub returns-in-Exit : goal.returns-in-Exit
returns-in-Exit c =
    subst (λ (k : Kind). IsTrue c.is_state.result ↔ FitsControl (measure c.args.scope.now) c.args.scope.now.func.now c.args.control.now k) (sym c.in-Exit.is) c.is_state.ensures
