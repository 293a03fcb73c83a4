use Rattle.bk_form.specs.Names.{measure, seen_callee}
use Rattle.bk_form.proofs.Signatures.{fits_first, fits_second}
use Rattle.bk_form.proofs.Tables.{through}
use Rattle.std.proofs.Common.{◌<◌, ◌≤◌, length, arith}
use Rattle.bk_form.proofs.words.fits_of_sig.Goals as goal

pub returns-then-place-args : goal.returns-then-place-args
returns-then-place-args c =
    let g = seen_callee c.args.callee in
    let k = c.args.place in
    let low : k < length g.args = omega arith in
    through c.fits_at.ensures (fits_first (measure c.args.scope.now) g.args g.results k c.args.ty low)

pub returns-else-place-args : goal.returns-else-place-args
returns-else-place-args c =
    let g = seen_callee c.args.callee in
    let k = c.args.place in
    let high : length g.args ≤ k = omega arith in
    through c.fits_at-else-place-args.ensures (fits_second (measure c.args.scope.now) g.args g.results k c.args.ty high)
