use Rattle.std.proofs.Common.{ap, not}
use Rattle.bk_form.proofs.Sending.{no_misfit}
use Rattle.bk_form.proofs.types.fits_calls.Goals as goal

pub returns : goal.returns
returns c = λ word.
    let w = c.args.scope.now in
    let (b, has) = c.requires.there in
    no_misfit w.pkg.now w.target w.func.now c.args.misfits.now b c.args.value.now (not c.is_marked.result) c.requires.misfits c.requires.number has (ap not c.is_marked.ensures) word
