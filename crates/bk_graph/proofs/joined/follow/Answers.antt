use Rattle.std.proofs.Common.{subst, ℕ, List, rules}
use Rattle.std.proofs.lemmas.List.{take_all}
use Rattle.std.proofs.lemmas.List.Elements.{All-more}
use Rattle.std.specs.List.{All}
use Rattle.bk_graph.specs.Joining.{Follows}
use Rattle.bk_graph.proofs.joined.follow.Goals as goal

pub loop-pred-preserved : goal.loop-pred-preserved
loop-pred-preserved c =
    All-more (Follows c.args.blocks.now c.args.to) c.args.preds.now c.loop-pred.pred-index 0 c.loop-pred-test.true c.loop-pred.invariant (search rules)

pub returns : goal.returns
returns c = λ t. subst (λ (xs : List ℕ). All (Follows c.args.blocks.now c.args.to) xs) (take_all c.loop-pred.pred-index c.args.preds.now c.loop-pred-test.false) c.loop-pred.invariant
