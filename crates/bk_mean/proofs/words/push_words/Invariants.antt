use Rattle.std.proofs.Common.{◌≡◌, ◌+◌, ◌-◌, ◌++◌}
use Rattle.bk_func.specs.Words.{words_at}
use Rattle.bk_mean.specs.Seen.{word_in}
use Rattle.bk_mean.proofs.words.push_words.Given as goal

abbrev pub invariant-loop-place : goal.invariant-loop-place
invariant-loop-place l = l.list.items ++ words_at (word_in l.words) l.place ((l.from + l.count) - l.place) ≡ l.initial.list.items ++ words_at (word_in l.words) l.from l.count
