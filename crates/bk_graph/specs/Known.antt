-- What the rules of clean tell of a function: the least facts that they give. Each rule speaks of the function as it is. Blocks
-- and values are named by their places.
use Rattle.std.specs.Prelude.{◌≡◌, ℕ, ℤ, ◌<◌, Bool, true, false, if◌then◌else◌, length, Option, None, Some, slice_get}
use Rattle.bk_func.specs.declared.parts.Kind.TheVariants.{If, First}
use Rattle.bk_func.specs.Records.{BlockRecord}
use Rattle.bk_graph.specs.declared.graph.Edge.{Edge}
use Rattle.bk_graph.specs.Clean.{is_phi, place_taken}
use Rattle.bk_graph.specs.Kinds.{is_passed, truth_of}
use Rattle.bk_graph.specs.Nodes.{NodeRecord}
use Rattle.bk_graph.specs.Tables.{Tables, edges_to, args_of, control_of}

-- an edge is there and stays
abbrev pub stays_there : (Edge → Bool) → Option Edge → Bool
stays_there stays None = false
stays_there stays (Some e) = stays e

-- values

-- the value, in this block, takes another one over an edge that stays
pub record TakesOver (t : Tables) (stays : Edge → Bool) (p block place other : ℕ) : Type 0 where
  pub arg : slice_get (args_of t p) place ≡ Some other
  pub edge : stays_there stays (slice_get (edges_to t block) place) ≡ true

-- where these edges stay, a use of one value becomes one of the other: of what a copy or a nil check takes first, or of the one
-- value that a phi takes besides itself
pub data Stands (t : Tables) (stays : Edge → Bool) : ℕ → ℕ → Type 0 where
  itself : (p : ℕ) → Stands t stays p p
  passed : (p q m : ℕ) (n : NodeRecord) → slice_get t.nodes p ≡ Some n → is_passed n.value.op.family ≡ true → slice_get (args_of t p) 0 ≡ Some q
      → q < length t.nodes → Stands t stays q m → Stands t stays p m
  phi : (p k q m : ℕ) (n : NodeRecord) (own : ℕ → Bool) → slice_get t.nodes p ≡ Some n → is_phi n.value.op.family ≡ true
      → slice_get (args_of t p) k ≡ Some q → q < length t.nodes → Stands t stays q m
      → ((j x : ℕ) → TakesOver t stays p n.block j x → Stands t stays x (if own j then p else m)) → Stands t stays p m

-- blocks

pub data Fact : Type 0 where
  -- the block goes to its successor at this place alone
  goes : (block place : ℕ) → Fact
  -- the edge goes
  cut : Edge → Fact
  -- no edge that stays leads to the block from the entry
  unreached : (block : ℕ) → Fact

pub data Known (t : Tables) : Fact → Type 0 where
  first : (b : ℕ) (c : BlockRecord) → slice_get t.blocks b ≡ Some c → c.kind ≡ First → Known t (goes b 0)
  -- the control stands for a constant, where edges are gone that are known to go
  decided : (b p q : ℕ) (c : BlockRecord) (n : NodeRecord) (int : ℤ) (stays : Edge → Bool) → slice_get t.blocks b ≡ Some c → c.kind ≡ If
      → control_of t b ≡ Some p → Stands t stays p q → slice_get t.nodes q ≡ Some n → truth_of n.value.op.family n.value.int ≡ Some int
      → ((e : Edge) → stays e ≡ false → Known t (cut e)) → Known t (goes b (place_taken int))
  other : (e : Edge) (k : ℕ) → ¬ (e.index ≡ k) → Known t (goes e.from k) → Known t (cut e)
  left : (e : Edge) → Known t (unreached e.from) → Known t (cut e)
  none : (b : ℕ) → slice_get t.blocks b ≡ None → Known t (unreached b)
  -- the block is one of a set without the entry, into which no edge that stays leads
  apart : (within : ℕ → Bool) (b : ℕ) → within b ≡ true → within 0 ≡ false
      → ((c k : ℕ) (e : Edge) → slice_get (edges_to t c) k ≡ Some e → within c ≡ true → within e.from ≡ false → Known t (cut e)) → Known t (unreached b)

-- edges that stay lead to the block from the entry
pub data Way (t : Tables) (stays : Edge → Bool) : ℕ → Type 0 where
  begin : (c : BlockRecord) → slice_get t.blocks 0 ≡ Some c → Way t stays 0
  onward : (b k : ℕ) (e : Edge) → Way t stays e.from → slice_get (edges_to t b) k ≡ Some e → stays e ≡ true → Way t stays b
