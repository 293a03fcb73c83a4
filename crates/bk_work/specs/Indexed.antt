-- The rules of the rewritings with their indexes.
use Rattle.std.specs.Prelude.{◌≡◌}
use Rattle.bk_rewrite.specs.Roots.{IsIndex}
use Rattle.bk_work.specs.declared.rules.Indexes.{Indexes}
use Rattle.bk_work.specs.declared.rules.Lists.{Lists}
use Rattle.bk_work.specs.Rules.{RulesRecord}

-- an index of each list
pub record AreIndexes (rules : RulesRecord) (it : Indexes) : Type 0 where
  pub generic : IsIndex rules.generic it.generic
  pub halves : IsIndex rules.halves it.halves
  pub machine : IsIndex rules.machine it.machine

-- these rules with their indexes
pub record AreIndexed (rules : RulesRecord) (lists : Lists) : Type 0 where
  pub rules_are : lists.rules ≡ rules
  pub indexes : AreIndexes rules lists.indexes
