-- Blocks whose numbers and edges agree, one by one.
use Rattle.std.specs.Prelude.{◌≡◌, ℕ, ◌≤◌, ◌==◌, true, length, position, List, Some, All}
use Rattle.std.specs.List.{list_any, slice_get}
use Rattle.bk_func.specs.Records.{BlockRecord}
use Rattle.bk_graph.specs.Named.{block_ids}

-- the number is that of a block which has the other number among its predecessors
pub record Leads (bs : List BlockRecord) (from to : ℕ) : Type 0 where
  pub place : ℕ
  pub block : BlockRecord
  pub first : position (λ x. x == to) (block_ids bs) ≡ Some place
  pub there : slice_get bs place ≡ Some block
  pub pred : list_any (λ n. n == from) block.preds ≡ true

-- the number is that of a block which has the other number among its successors
pub record Follows (bs : List BlockRecord) (to from : ℕ) : Type 0 where
  pub place : ℕ
  pub block : BlockRecord
  pub first : position (λ x. x == from) (block_ids bs) ≡ Some place
  pub there : slice_get bs place ≡ Some block
  pub succ : list_any (λ n. n == to) block.succs ≡ true

-- the block stands where its number is first, and its edges agree with those of other blocks
pub record AgreesAt (bs : List BlockRecord) (p : ℕ) (b : BlockRecord) : Type 0 where
  pub first : position (λ x. x == b.id) (block_ids bs) ≡ Some p
  pub few : length b.succs ≤ 2
  pub out : All (Leads bs b.id) b.succs
  pub into : All (Follows bs b.id) b.preds
