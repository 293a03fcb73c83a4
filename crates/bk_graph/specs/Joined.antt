-- What is asked of the blocks of a function that are laid out or whose edges are split.
use Rattle.std.specs.Prelude.{◌≡◌, ◌<◌, ◌≤◌, ◌+◌, ◌*◌, ◌^◌, ◌==◌, length, All}
use Rattle.std.specs.List.{list_any}
use Rattle.bk_func.specs.Records.{BlockRecord, FuncRecord}
use Rattle.bk_func.specs.Edits.{greatest_block}
use Rattle.bk_func.specs.Form.Parts.{IsBlockNumber}
use Rattle.bk_func.specs.Form.Text.{HasBlock}

-- each number of a block is that of one block, predecessors and successors agree, a block has at most two successors, and
-- as many blocks as there are edges have numbers of 32 bits
pub record IsJoined (f : FuncRecord) : Type 0 where
  pub own : (b : BlockRecord) → HasBlock f b → IsBlockNumber f b.id
  pub named : (b : BlockRecord) → HasBlock f b → All (IsBlockNumber f) b.succs
  pub agree : (a b : BlockRecord) → HasBlock f a → HasBlock f b → list_any (λ m. m == a.id) b.preds ≡ list_any (λ n. n == b.id) a.succs
  pub few : (b : BlockRecord) → HasBlock f b → length b.succs ≤ 2
  pub room : greatest_block f + length f.blocks * 2 < 2 ^ 32
