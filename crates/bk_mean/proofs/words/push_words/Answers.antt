use Rattle.std.proofs.Common.{◌+◌, ◌-◌, ◌++◌, ◌∷◌, ◌∙◌, [], ap, arith}
use Rattle.bk_func.specs.Words.{words_at}
use Rattle.bk_mean.specs.Seen.{word_in}
use Rattle.bk_mean.proofs.Written.{words_more}
use Rattle.bk_mean.proofs.words.push_words.Goals as goal

pub loop-place-preserved : goal.loop-place-preserved
loop-place-preserved c =
    ap (λ xs. xs ++ words_at (word_in c.args.words.now) (c.loop-place.place + 1) ((c.args.from + c.args.count) - (c.loop-place.place + 1))) (c.in_ok-push.ensures.items ∙ ap (λ x. c.loop-place.list.items ++ x ∷ []) c.get.ensures)
    ∙ words_more (word_in c.args.words.now) c.loop-place.place (c.args.from + c.args.count) c.loop-place.list.items _ (omega arith) c.loop-place.invariant
