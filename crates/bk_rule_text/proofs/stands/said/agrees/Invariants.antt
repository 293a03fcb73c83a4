use Rattle.std.proofs.Common.{nat_eq, take}
use Rattle.indexmap.specs.IndexMap.{get}
use Rattle.bk_rule_text.proofs.Agreeing.{Noted}
use Rattle.bk_rule_text.proofs.stands.said.agrees.Given as goal

abbrev pub invariant-loop-variable : goal.invariant-loop-variable
invariant-loop-variable g l = Noted g.T.PartialEq.eq (λ k. get nat_eq l.first k) (take l.variable-index l.said)
