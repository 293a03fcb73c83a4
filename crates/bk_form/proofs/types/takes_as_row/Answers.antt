use Rattle.std.proofs.Common.{◌↔◌, subst}
use Rattle.std.specs.Bool.{IsTrue}
use Rattle.bk_func.specs.Records.{ValueRecord}
use Rattle.bk_func.specs.Form.Shapes.{FitsAux}
use Rattle.bk_form.specs.Names.{measure}
use Rattle.bk_form.proofs.types.takes_as_row.Goals as goal

pub fits_calls-requires-clause-number : goal.fits_calls-requires-clause-number
fits_calls-requires-clause-number c = let (b, has) = c.requires.there in c.requires.named.own b c.args.value.now has

pub args_fit-requires-clause-named : goal.args_fit-requires-clause-named
args_fit-requires-clause-named c = let (b, has) = c.requires.there in c.requires.named.args b c.args.value.now has

pub returns-then-aux_fits : goal.returns-then-aux_fits
returns-then-aux_fits c =
    let s = measure c.args.scope.now in
    let (to, from) = subst (λ (w : ValueRecord). IsTrue c.aux_fits.result ↔ FitsAux s w.op.family w.aux) c.value.view_is c.aux_fits.ensures in
    ((λ t. (to c.if-aux_fits.true, c.args_fit.ensures.0 t)), (λ (aux, args). c.args_fit.ensures.1 args))
