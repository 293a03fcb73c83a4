use Rattle.std.proofs.Common.{◌∙◌, ap, sym, arith}
use Rattle.bk_rule.proofs.Opened.{opened}
use Rattle.bk_rule_text.specs.Widths.{op_fits, pattern_fits, patterns_fit}
use Rattle.bk_rule_text.proofs.Standing.{fitting_node, both_hold, fits_on, fits_not, all_fit}
use Rattle.bk_rule_text.proofs.stands.width.+pattern.Goals as goal

pub pattern_fits-returns-then-op_fits : goal.pattern_fits-returns-then-op_fits
unfolding opened
pattern_fits-returns-then-op_fits t c =
    let n = c.in-Node in
    both_hold c.op_fits.result c.patterns_fit.result (op_fits n.op c.args.class) (patterns_fit n.op 0 n.args) (pattern_fits c.args.pattern.now c.args.class)
    c.if-op_fits.true c.op_fits.ensures (c.patterns_fit.ensures ∙ ap (patterns_fit n.op 0) c.as_slice.ensures)
    (ap (λ x. pattern_fits x c.args.class) n.is ∙ fitting_node n.var n.op n.ty n.int n.aux n.args c.args.class)

pub patterns_fit-returns-then-not-pattern_fits : goal.patterns_fit-returns-then-not-pattern_fits
patterns_fit-returns-then-not-pattern_fits t c =
    let x = c.index-patterns-place.result in
    sym
    (fits_not c.args.op c.args.patterns.now c.loop-place.place x _ c.loop-place.invariant (omega arith) c.index-patterns-place.is (ap (pattern_fits x) (sym c.class_at.ensures) ∙ sym c.pattern_fits.ensures ∙ c.if-not-pattern_fits.true))

pub patterns_fit-loop-place-preserved : goal.patterns_fit-loop-place-preserved
patterns_fit-loop-place-preserved t c =
    let x = c.index-patterns-place.result in
    fits_on c.args.op c.args.patterns.now c.loop-place.place x _ c.loop-place.invariant (omega arith) c.index-patterns-place.is (ap (pattern_fits x) (sym c.class_at.ensures) ∙ sym c.pattern_fits.ensures ∙ c.if-not-pattern_fits.false)

pub patterns_fit-returns : goal.patterns_fit-returns
patterns_fit-returns t c = sym (all_fit c.args.op c.args.patterns.now c.loop-place.place _ c.loop-place.invariant (omega arith))
