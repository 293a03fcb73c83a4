use Rattle.std.proofs.Common.{◌≡◌, subst, ◌∙◌, IfErr, OnOk}
use Rattle.std.proofs.lemmas.Option.{get_or_from_slice_get}
use Rattle.bk_func.specs.declared.RewriteError.TheVariants as error
use Rattle.bk_rule.specs.declared.trees.Rule.{Rule}
use Rattle.bk_rewrite.specs.Making.{source, Grows}
use Rattle.bk_rewrite.proofs.Put.{applied_here}
use Rattle.bk_rewrite.proofs.applying.apply.Goals as goal

pub returns-clause-ok : goal.returns-clause-ok
returns-clause-ok c = λ r b p v g e h.
    let (w, q, k) = c.in-Some.ensures in
    applied_here c.apply_there.result c.args.func.now c.apply_there.new.func c.args.binds.now c.args.target r c.index-rules-place.result c.args.value b p c.in-Some.spot.block c.in-Some.spot.place v w
    c.requires.numbers (c.index-rules-place.is ∙ get_or_from_slice_get c.args.rules.now c.args.place r c.index-rules-place.result g) e h q k (c.apply_there.ensures.ok w q)

pub returns-clause-grown : goal.returns-clause-grown
returns-clause-grown c = λ r g.
    subst (λ (a : Rule). IfErr c.apply_there.result (λ e. e ≡ error.Grown 32769 → Grows (source c.args.func.now c.args.binds.now c.args.target) a.right))
    (c.index-rules-place.is ∙ get_or_from_slice_get c.args.rules.now c.args.place r c.index-rules-place.result g) c.apply_there.ensures.grown

pub returns-clause-fits : goal.returns-clause-fits
returns-clause-fits c = λ r g.
    subst (λ (a : Rule). OnOk c.apply_there.result (¬ Grows (source c.args.func.now c.args.binds.now c.args.target) a.right))
    (c.index-rules-place.is ∙ get_or_from_slice_get c.args.rules.now c.args.place r c.index-rules-place.result g) c.apply_there.ensures.fits
