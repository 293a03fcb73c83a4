use Rattle.std.proofs.Common.{rules, arith, string_bytes, refl}
use Rattle.std.proofs.lemmas.List.{length-map}
use Rattle.bk_top.specs.Commands.{SpellsArgument}
use Rattle.bk_top.proofs.Calls.{all_more, one_not}
use Rattle.bk_top.proofs.command.number.are_arguments.Goals as goal

pub returns-then-not-is_argument : goal.returns-then-not-is_argument
returns-then-not-is_argument c = (
  λ e. absurd (cc),
  λ all. absurd (one_not (λ w. string_bytes w) SpellsArgument c.args.words.now c.loop-word.word-index c.word-item.result (omega arith) c.word-item.is (λ s. let t = c.is_argument.ensures.1 s in absurd (cc)) all),
)

pub loop-word-preserved : goal.loop-word-preserved
loop-word-preserved c =
    let s = c.is_argument.ensures.0 (search rules) in
    all_more (λ w. string_bytes w) SpellsArgument c.args.words.now c.loop-word.word-index c.word-item.result (omega arith) c.word-item.is s c.loop-word.invariant

pub returns : goal.returns
returns c = (λ e k d lt. c.loop-word.invariant k d (omega (arith, length-map c.args.words.now (λ w. string_bytes w))), λ all. refl)
