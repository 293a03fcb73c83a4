use Rattle.std.proofs.Common.{◌∙◌, ap, arith, sym}
use Rattle.std.specs.List.{position_or_len}
use Rattle.std.proofs.lemmas.List.{take_all}
use Rattle.bk_alloc.specs.Blocks.{is_before}
use Rattle.bk_alloc.proofs.Before.{before_more, none_before}
use Rattle.bk_alloc.proofs.parts.Parts.first_place.Goals as goal

pub loop-number-init : goal.loop-number-init
loop-number-init c = (c.count-first.ensures ∙ sym (none_before c.args.self.now), omega (arith, c.count-first.ensures))

pub loop-number-preserved : goal.loop-number-preserved
loop-number-preserved c = (
  c.lesser_place-first.ensures ∙ before_more c.args.numbers.now c.loop-number.number-index c.args.self.now c.loop-number.first (omega arith) c.loop-number.invariant.0,
  omega (arith, c.lesser_place-first.ensures),
)

pub returns : goal.returns
returns c =
    c.loop-number.invariant.0 ∙ ap (λ ns. position_or_len (is_before ns) c.args.self.now) (take_all c.loop-number.number-index c.args.numbers.now (omega arith))
