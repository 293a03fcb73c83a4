use Rattle.std.proofs.Common.{◌<◌, ◌^◌, ℕ, List, subst}
use Rattle.std.proofs.lemmas.List.{take_all}
use Rattle.std.proofs.lemmas.List.Elements.{All-more}
use Rattle.std.specs.List.{All}
use Rattle.bk_elf.proofs.typed.are_words.Goals as goal

abbrev Fits : ℕ → Type 0
Fits n = n < 2 ^ 32

pub loop-word-preserved : goal.loop-word-preserved
loop-word-preserved c =
    All-more Fits c.args.words.now c.loop-word.word-index 0 c.loop-word-test.true c.loop-word.invariant c.is_word.ensures

pub returns : goal.returns
returns c = subst (λ (xs : List ℕ). All Fits xs) (take_all c.loop-word.word-index c.args.words.now c.loop-word-test.false) c.loop-word.invariant
