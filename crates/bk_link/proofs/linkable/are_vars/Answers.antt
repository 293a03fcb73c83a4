use borrow.Author.Tests.{tests}
use Rattle.std.proofs.Common.{rules}
use Rattle.std.proofs.lemmas.Iterator.{cases_from_all, YieldsList-from_slice}
use Rattle.bk_link.specs.Conditions.{IsVar}
use Rattle.bk_link.proofs.Tested.{decided}
use Rattle.bk_link.proofs.linkable.are_vars.Goals as goal

pub returns : goal.returns
returns c =
    decided (IsVar) c.args.vars.now _
    (cases_from_all _ _ _ (IsVar) (λ x. (IsVar) x → ⊥) c.all.ensures.ran (YieldsList-from_slice c.args.vars.now cc) (λ x q k. search (rules, tests)) (λ x q k. search (rules, tests)))
