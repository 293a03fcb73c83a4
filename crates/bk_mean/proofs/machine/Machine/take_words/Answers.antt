use Rattle.std.proofs.Common.{rules, ◌≡◌, ◌-◌, ◌++◌, refl, length, vec_len}
use Rattle.bk_func.specs.Words.{words_at}
use Rattle.bk_mean.specs.Seen.{word_in}
use Rattle.bk_mean.proofs.Turning.{took}
use Rattle.bk_mean.proofs.machine.Machine.take_words.Goals as goal

pub returns-in_ok-push_words-clause-took : goal.returns-in_ok-push_words-clause-took
returns-in_ok-push_words-clause-took c =
    let h : c.push_words.new.list.items ≡ c.args.self.now.hand.items ++ words_at (word_in c.in-Some.call.now.words.out) (length c.args.self.now.hand.items) (c.args.count - length c.args.self.now.hand.items) = search rules in
    took c.args.count _ _ c.in-Some.call.now c.clear.new.self (vec_len c.args.self.now.calls) c.args.self.now.calls.ok.0 refl refl h c.in-Some.ensures.value refl c.clear.ensures
