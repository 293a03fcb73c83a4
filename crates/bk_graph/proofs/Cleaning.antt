-- The tables of a graph are those of the function.
use Rattle.std.proofs.Common.{◌≡◌, ◌∙◌, ap, subst, ℕ, ◌<◌, Bool, true, List, length, Option, ◌↔◌}
use Rattle.bk_func.specs.Records.{BlockRecord, FuncRecord}
use Rattle.bk_graph.specs.declared.graph.Edge.{Edge}
use Rattle.bk_graph.specs.declared.graph.Graph.{Graph}
use Rattle.bk_graph.specs.Cleaned.{IsSound, IsClosed, IsNeeded, IsCleaned}
use Rattle.bk_graph.specs.Facts.{Facts}
use Rattle.bk_graph.specs.Graphs.{IsGraphOf}
use Rattle.bk_graph.specs.Nodes.{NodeRecord}
use Rattle.bk_graph.specs.Rebuilt.{rebuilt}
use Rattle.bk_graph.specs.Settling.{tables}
use Rattle.bk_graph.specs.Tables.{Tables, tables_of}

make : List BlockRecord → List NodeRecord → List ℕ → List (List Edge) → List (List ℕ) → List (Option ℕ) → Tables
make b n o e a c = record { blocks = b; nodes = n; offsets = o; edges = e; args = a; controls = c }

pub graph_tables : (f : FuncRecord) (g : Graph) → IsGraphOf f.blocks g → tables g ≡ tables_of f
unfolding tables_of make
graph_tables f g h =
    ap (λ (x : List BlockRecord). make x g.nodes.items g.offsets.items g.edges g.args g.controls.items) h.blocks
    ∙ ap (λ (x : List NodeRecord). make f.blocks x g.offsets.items g.edges g.args g.controls.items) h.nodes
    ∙ ap (λ (x : List ℕ). make f.blocks (tables_of f).nodes x g.edges g.args g.controls.items) h.offsets
    ∙ ap (λ (x : List (List Edge)). make f.blocks (tables_of f).nodes (tables_of f).offsets x g.args g.controls.items) h.edges
    ∙ ap (λ (x : List (List ℕ)). make f.blocks (tables_of f).nodes (tables_of f).offsets (tables_of f).edges x g.controls.items) h.args
    ∙ ap (λ (x : List (Option ℕ)). make f.blocks (tables_of f).nodes (tables_of f).offsets (tables_of f).edges (tables_of f).args x) h.controls

pub is_cleaned : (f g : FuncRecord) (t : Tables) (F : Facts) (needed : ℕ → Bool) → t ≡ tables_of f → IsSound t F → IsClosed t F
    → ((p : ℕ) → p < length t.nodes → (needed p ≡ true) ↔ IsNeeded t F p) → g ≡ rebuilt t F needed f → IsCleaned f g
is_cleaned f g t F needed e s c n is = record {
  facts = F;
  sound = (let P : Tables → Type 0 = λ u. IsSound u F in subst P e s);
  closed = (let P : Tables → Type 0 = λ u. IsClosed u F in subst P e c);
  needed = needed;
  needs = (let P : Tables → Type 0 = λ u. (p : ℕ) → p < length u.nodes → (needed p ≡ true) ↔ IsNeeded u F p in subst P e n);
  is = (let P : Tables → Type 0 = λ u. g ≡ rebuilt u F needed f in subst P e is);
}
