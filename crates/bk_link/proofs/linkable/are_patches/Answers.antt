use borrow.Author.Tests.{tests}
use Rattle.std.proofs.Common.{rules}
use Rattle.std.proofs.lemmas.Iterator.{cases_from_all, YieldsList-from_slice}
use Rattle.std.proofs.Common.{map}
use Rattle.bk_link.specs.Conditions.{IsPatch}
use Rattle.bk_link.proofs.Tested.{decided}
use Rattle.bk_link.proofs.linkable.are_patches.Goals as goal

pub returns : goal.returns
returns c =
    decided (IsPatch c.args.target (map (λ w. w.items) c.args.words.now) c.args.size) c.args.sites.now _
    (cases_from_all _ _ _ (IsPatch c.args.target (map (λ w. w.items) c.args.words.now) c.args.size) (λ x. (IsPatch c.args.target (map (λ w. w.items) c.args.words.now) c.args.size) x → ⊥) c.all.ensures.ran (YieldsList-from_slice c.args.sites.now cc) (λ x q k. search (rules, tests)) (λ x q k. search (rules, tests)))
