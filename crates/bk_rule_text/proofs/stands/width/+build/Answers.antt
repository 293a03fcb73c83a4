use Rattle.std.proofs.Common.{◌∙◌, ap, sym, arith}
use Rattle.bk_rule.proofs.Opened.{opened}
use Rattle.bk_rule_text.specs.Widths.{head_fits, build_fits, builds_fit}
use Rattle.bk_rule_text.proofs.Standing.{fitting_build, both_hold, made_fits_on, made_fits_not, all_made_fit}
use Rattle.bk_rule_text.proofs.stands.width.+build.Goals as goal

pub build_fits-returns-then-head_fits : goal.build_fits-returns-then-head_fits
unfolding opened
build_fits-returns-then-head_fits t c =
    let n = c.in-Node in
    both_hold c.head_fits.result c.builds_fit.result (head_fits n.op n.ty c.args.class) (builds_fit n.op 0 n.args) (build_fits c.args.build.now c.args.class)
    c.if-head_fits.true c.head_fits.ensures (c.builds_fit.ensures ∙ ap (builds_fit n.op 0) c.as_slice.ensures)
    (ap (λ x. build_fits x c.args.class) n.is ∙ fitting_build n.op n.ty n.int n.aux n.args c.args.class)

pub builds_fit-returns-then-not-build_fits : goal.builds_fit-returns-then-not-build_fits
builds_fit-returns-then-not-build_fits t c =
    let x = c.index-builds-place.result in
    sym
    (made_fits_not c.args.op c.args.builds.now c.loop-place.place x _ c.loop-place.invariant (omega arith) c.index-builds-place.is (ap (build_fits x) (sym c.class_at.ensures) ∙ sym c.build_fits.ensures ∙ c.if-not-build_fits.true))

pub builds_fit-loop-place-preserved : goal.builds_fit-loop-place-preserved
builds_fit-loop-place-preserved t c =
    let x = c.index-builds-place.result in
    made_fits_on c.args.op c.args.builds.now c.loop-place.place x _ c.loop-place.invariant (omega arith) c.index-builds-place.is (ap (build_fits x) (sym c.class_at.ensures) ∙ sym c.build_fits.ensures ∙ c.if-not-build_fits.false)

pub builds_fit-returns : goal.builds_fit-returns
builds_fit-returns t c = sym (all_made_fit c.args.op c.args.builds.now c.loop-place.place _ c.loop-place.invariant (omega arith))
