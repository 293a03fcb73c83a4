use borrow.Author.Tests.{tests}
use Rattle.std.proofs.Common.{rules}
use Rattle.std.proofs.lemmas.Iterator.{cases_from_all, YieldsList-from_slice}
use Rattle.std.proofs.Common.{map}
use Rattle.bk_link.specs.Conditions.{IsHandle}
use Rattle.bk_link.proofs.Tested.{decided}
use Rattle.bk_link.proofs.linkable.are_types.Goals as goal

pub returns : goal.returns
returns c =
    decided (IsHandle (map (λ w. w.items) c.args.words.now) 1) c.args.types.now _
    (cases_from_all _ _ _ (IsHandle (map (λ w. w.items) c.args.words.now) 1) (λ x. (IsHandle (map (λ w. w.items) c.args.words.now) 1) x → ⊥) c.all.ensures.ran (YieldsList-from_slice c.args.types.now cc) (λ x q k. search (rules, tests)) (λ x q k. search (rules, tests)))
