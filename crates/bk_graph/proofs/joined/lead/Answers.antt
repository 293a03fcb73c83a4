use Rattle.std.proofs.Common.{subst, ℕ, List, rules}
use Rattle.std.proofs.lemmas.List.{take_all}
use Rattle.std.proofs.lemmas.List.Elements.{All-more}
use Rattle.std.specs.List.{All}
use Rattle.bk_graph.specs.Joining.{Leads}
use Rattle.bk_graph.proofs.joined.lead.Goals as goal

pub loop-succ-preserved : goal.loop-succ-preserved
loop-succ-preserved c =
    All-more (Leads c.args.blocks.now c.args.from) c.args.succs.now c.loop-succ.succ-index 0 c.loop-succ-test.true c.loop-succ.invariant (search rules)

pub returns : goal.returns
returns c = λ t. subst (λ (xs : List ℕ). All (Leads c.args.blocks.now c.args.from) xs) (take_all c.loop-succ.succ-index c.args.succs.now c.loop-succ-test.false) c.loop-succ.invariant
