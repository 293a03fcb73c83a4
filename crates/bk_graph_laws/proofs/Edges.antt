-- The type of the edges of tables, by what lists them.
use Rattle.std.specs.Prelude.{ℕ, List}
use Rattle.bk_graph.specs.Tables.{Tables, edges_to}

abbrev pub item_of : {A : Type 0} → (Tables → ℕ → List A) → Type 0
item_of {A} list = A

abbrev pub Edge : Type 0
Edge = item_of edges_to
