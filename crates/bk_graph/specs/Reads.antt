-- What is settled, as facts.
use Rattle.std.specs.Prelude.{◌≡◌}
use Rattle.bk_graph.specs.declared.settled.Settled.{Settled}
use Rattle.bk_graph.specs.Facts.{Facts}
use Rattle.bk_graph.specs.Settling.{tables, facts_in, AreSized, IsSettling}
use Rattle.bk_graph.specs.Tables.{Tables}

abbrev pub facts : Settled → Facts
facts s = facts_in s.taken.items s.reached.items s.roots

abbrev pub tables_in : Settled → Tables
tables_in s = tables s.graph.now

-- the lists have the facts in order
pub record IsRight (s : Settled) : Type 0 where
  pub sized : AreSized (tables_in s) s.taken.items s.reached.items s.roots
  pub settling : IsSettling (tables_in s) (facts s)

-- the facts stay in order, of the same function
pub record Steps (s t : Settled) : Type 0 where
  pub graph : t.graph.now ≡ s.graph.now
  pub right : IsRight t
