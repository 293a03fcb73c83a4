-- What holds of the facts while they are settled.
use Rattle.std.specs.Prelude.{◌≡◌, ◌≢◌, ℕ, ◌<◌, ◌≤◌, ◌==◌, ◌&&◌, ◌⊎◌, Bool, true, false, if◌then◌else◌, nat_lt, List, length, Option, None, Some, slice_get, slice_index_or}
use Rattle.bk_func.specs.Records.{BlockRecord}
use Rattle.bk_graph.specs.declared.graph.Edge.{Edge}
use Rattle.bk_graph.specs.declared.graph.Graph.{Graph}
use Rattle.bk_graph.specs.Clean.{is_phi}
use Rattle.bk_graph.specs.Cleaned.{goes_at}
use Rattle.bk_graph.specs.Facts.{Facts, edge_stays}
use Rattle.bk_graph.specs.Kinds.{is_passed}
use Rattle.bk_graph.specs.Known.{stays_there, TakesOver, Stands, goes, unreached, Known, Way}
use Rattle.bk_graph.specs.Nodes.{NodeRecord}
use Rattle.bk_graph.specs.Roots.{root_of}
use Rattle.bk_graph.specs.Tables.{Tables, edges_to, args_of}

-- the tables that a graph holds
abbrev pub tables : Graph → Tables
tables g = record { blocks = g.blocks.now; nodes = g.nodes.items; offsets = g.offsets.items; edges = g.edges; args = g.args; controls = g.controls.items }

-- the facts that lists of them say
abbrev pub facts_in : List (Option ℕ) → List Bool → List ℕ → Facts
facts_in taken reached roots = record {
  reached = λ b. slice_index_or reached b false;
  taken = λ b. slice_index_or taken b None;
  root = root_of roots;
}

-- the rules give the facts; of what they do not give yet nothing is lost
pub record IsSettling (t : Tables) (F : Facts) : Type 0 where
  pub unreached : (b : ℕ) → F.reached b ≡ false → Known t (unreached b)
  pub taken : (b k : ℕ) → F.taken b ≡ Some k → Known t (goes b k)
  pub root : (p : ℕ) → Stands t (edge_stays F) p (F.root p)
  pub entry : (c : BlockRecord) → slice_get t.blocks 0 ≡ Some c → F.reached 0 ≡ true
  pub onward : (b k : ℕ) (e : Edge) → slice_get (edges_to t b) k ≡ Some e → edge_stays F e ≡ true → F.reached b ≡ true
  pub goes : (b k : ℕ) → F.taken b ≡ Some k → goes_at t F.root b (slice_get t.blocks b) ≡ Some k
  pub passed : (p q : ℕ) (n : NodeRecord) → slice_get t.nodes p ≡ Some n → is_passed n.value.op.family ≡ true → slice_get (args_of t p) 0 ≡ Some q
      → q < length t.nodes → F.root p ≡ F.root q
  pub flat : (p : ℕ) → F.root (F.root p) ≡ F.root p
  pub within : (p : ℕ) → p < length t.nodes → F.root p < length t.nodes
  -- what a phi that has yielded takes stands for what it stands for
  pub yielded : (p k x : ℕ) (n : NodeRecord) → slice_get t.nodes p ≡ Some n → is_phi n.value.op.family ≡ true → F.root p ≢ p
      → TakesOver t (edge_stays F) p n.block k x → F.root x ≡ F.root p

-- the lists have an item for each block and each value
pub record AreSized (t : Tables) (ts : List (Option ℕ)) (ls : List Bool) (rs : List ℕ) : Type 0 where
  pub taken : length ts ≡ length t.blocks
  pub reached : length ls ≡ length t.blocks
  pub roots : length rs ≡ length t.nodes

-- copies and nil checks

abbrev pub is_passed_at : Option NodeRecord → Bool
is_passed_at None = false
is_passed_at (Some n) = is_passed n.value.op.family

abbrev pub if_below : ℕ → Option ℕ → Option ℕ
if_below count None = None
if_below count (Some q) = if nat_lt q count then Some q else None

-- the place of the value that a copy or a nil check takes first
abbrev pub first_of : Tables → ℕ → Option ℕ
first_of t p = if is_passed_at (slice_get t.nodes p) then if_below (length t.nodes) (slice_get (args_of t p) 0) else None

-- the copies and nil checks among the first values stand for what they take first, other values for themselves
pub record ArePassed (t : Tables) (rs : List ℕ) (i : ℕ) : Type 0 where
  pub size : length rs ≡ length t.nodes
  pub stands : (stays : Edge → Bool) (p : ℕ) → Stands t stays p (root_of rs p)
  pub passed : (p q : ℕ) → p < i → first_of t p ≡ Some q → root_of rs p ≡ root_of rs q
  pub own : (p : ℕ) → i ≤ p → root_of rs p ≡ p
  pub others : (p : ℕ) → first_of t p ≡ None → root_of rs p ≡ p
  pub flat : (p : ℕ) → root_of rs (root_of rs p) ≡ root_of rs p
  pub within : (p : ℕ) → p < length t.nodes → root_of rs p < length t.nodes

-- a value stands for what the other stands for
pub record Yields (rs ns : List ℕ) (p o : ℕ) : Type 0 where
  pub size : length ns ≡ length rs
  pub each : (q : ℕ) → q < length rs → root_of ns q ≡ (if root_of rs q == p then o else root_of rs q)

-- phis

-- of what stands at the places that stay, besides `own`, there is one
pub record IsOther (F : Facts) (es : List Edge) (xs : List ℕ) (own other : ℕ) : Type 0 where
  pub apart : other ≢ own
  pub place : ℕ
  pub arg : ℕ
  pub there : slice_get xs place ≡ Some arg
  pub edge : stays_there (edge_stays F) (slice_get es place) ≡ true
  pub root : F.root arg ≡ other
  pub all : (j y : ℕ) → slice_get xs j ≡ Some y → stays_there (edge_stays F) (slice_get es j) ≡ true → (F.root y ≡ own) ⊎ (F.root y ≡ other)

-- what stands for the argument at a place, if the edge there stays, else `own`
abbrev pub root_over : Facts → List Edge → ℕ → ℕ → ℕ → ℕ
root_over F es own k x = if stays_there (edge_stays F) (slice_get es k) then F.root x else own

-- the phi stands for itself and takes the one value besides
pub record TakesOne (t : Tables) (F : Facts) (p other : ℕ) : Type 0 where
  pub node : NodeRecord
  pub is : slice_get t.nodes p ≡ Some node
  pub phi : is_phi node.value.op.family ≡ true
  pub own : F.root p ≡ p
  pub one : IsOther F (edges_to t node.block) (args_of t p) p other
  pub within : other < length t.nodes

-- the search for the blocks that are reached

-- an edge that stays leads to the block from one that is found
abbrev pub enters : Facts → List Bool → Edge → Bool
enters F found e = slice_index_or found e.from false && edge_stays F e

pub record IsFound (t : Tables) (F : Facts) (found : List Bool) : Type 0 where
  pub size : length found ≡ length t.blocks
  pub way : (b : ℕ) → slice_index_or found b false ≡ true → Way t (edge_stays F) b
  pub entry : (c : BlockRecord) → slice_get t.blocks 0 ≡ Some c → slice_index_or found 0 false ≡ true

-- no edge that stays leads from a block that is found to this one, unless it is found too
abbrev pub IsShut : Tables → Facts → List Bool → ℕ → Type 0
IsShut t F found b = slice_index_or found b false ≡ false → (k : ℕ) (e : Edge) → slice_get (edges_to t b) k ≡ Some e → enters F found e ≡ false
