use borrow.Author.Tests.{tests}
use Rattle.std.proofs.Common.{rules}
use Rattle.std.proofs.lemmas.Iterator.{cases_from_all, YieldsList-from_slice}
use Rattle.std.proofs.Common.{map}
use Rattle.bk_link.specs.Conditions.{HasPatches}
use Rattle.bk_link.proofs.Tested.{decided}
use Rattle.bk_link.proofs.linkable.have_patches.Goals as goal

pub returns : goal.returns
returns c =
    decided (HasPatches c.args.target (map (λ w. w.items) c.args.words.now)) c.args.pieces.now _
    (cases_from_all _ _ _ (HasPatches c.args.target (map (λ w. w.items) c.args.words.now)) (λ x. (HasPatches c.args.target (map (λ w. w.items) c.args.words.now)) x → ⊥) c.all.ensures.ran (YieldsList-from_slice c.args.pieces.now cc) (λ x q k. search (rules, tests)) (λ x q k. search (rules, tests)))
