use Rattle.std.proofs.Common.{◌≡◌, ◌≤◌, ◌^◌, ℕ, [], subst, refl, arith, length}
use Rattle.std.specs.List.{Contains}
use Rattle.bk_core.specs.Rule.{Sight}
use Rattle.bk_core.specs.Events.{words_of}
use Rattle.bk_share.specs.Passes.{view}
use Rattle.bk_work.specs.Run.{AreDrawn, times_in, in_words}
use Rattle.bk_work.proofs.Grow.{items_grow}
use Rattle.bk_work.proofs.run.whole_round.Goals as goal

pub returns-clause-items : goal.returns-clause-items
returns-clause-items g c =
    let r = c.args.round in let v = view c.run.new.pass in let is = c.in_ok-items.items in let count = length r.order.now in
    let drawn : AreDrawn count c.args.workers [] v.numbers is.items = subst (λ (s : Sight). AreDrawn count c.args.workers s.numbers v.numbers is.items) c.requires.first c.in_ok-items.ensures.drawn in
    let past = drawn.past c.requires.workers in
    let few : length v.numbers ≤ 2 ^ 64 = let l = drawn.long in let o = is.ok in let s = is.small in let f = c.ranges.workers in let z : length {A = ℕ} [] ≡ 0 = refl in omega arith in record {
      once = λ x lt. let one = c.close-words.ensures.once few past.0 past.1 past.2 x lt in let d = drawn.times x lt in let z : times_in x [] ≡ 0 = refl in omega arith;
      each = items_grow r.pkg.now r.target r.job r.order.now (Contains v.known) (in_words (words_of c.close-words.result)) is.items c.close-words.ensures.held c.in_ok-items.ensures.items;
    }
