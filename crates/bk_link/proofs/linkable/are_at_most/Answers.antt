use borrow.Author.Tests.{tests}
use Rattle.std.proofs.Common.{ℕ, ◌≤◌, rules}
use Rattle.std.proofs.lemmas.Iterator.{cases_from_all, YieldsList-from_slice}
use Rattle.bk_link.proofs.Tested.{decided}
use Rattle.bk_link.proofs.linkable.are_at_most.Goals as goal

pub returns : goal.returns
returns c =
    let P : ℕ → Type 0 = λ w. w ≤ c.args.most in
    decided P c.args.words.now _
    (cases_from_all _ _ _ P (λ (w : ℕ). P w → ⊥) c.all.ensures.ran (YieldsList-from_slice c.args.words.now cc) (λ x q k. search (rules, tests)) (λ x q k. search (rules, tests)))
