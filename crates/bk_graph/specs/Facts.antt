-- What is known of a function's blocks, edges and values by their places.
use Rattle.std.specs.Prelude.{ℕ, ◌==◌, ◌&&◌, Bool, true, Option, None, Some}
use Rattle.bk_graph.specs.declared.graph.Edge.{Edge}

-- which blocks are reached, the place of the one successor to which a block goes, and the value that another one stands for
pub record Facts : Type 0 where
  pub reached : ℕ → Bool
  pub taken : ℕ → Option ℕ
  pub root : ℕ → ℕ

-- a block that goes to one successor goes to the one at its place, another one to each
abbrev pub goes_to : Option ℕ → ℕ → Bool
goes_to None k = true
goes_to (Some t) k = t == k

-- the edge stays: its block is reached and goes there
abbrev pub edge_stays : Facts → Edge → Bool
edge_stays F e = F.reached e.from && goes_to (F.taken e.from) e.index
