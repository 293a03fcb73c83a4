-- The edits of a function, and what they need.
use Rattle.std.specs.Prelude.{ℕ, ℤ, ◌+◌, ◌-◌, ◌<◌, ◌==◌, if◌then◌else◌, List, [], ◌∷◌, ◌++◌, length, take, map, max, fold, sum_by, count_by, position, Option, Some, None, IsSome, IfSome, slice_index, slice_set}
use Rattle.std.specs.List.{find}
use Rattle.bk_ops.specs.declared.table.Op.{Op}
use Rattle.bk_ops.specs.declared.types.Ty.{Ty}
use Rattle.bk_func.specs.declared.parts.Aux.{Aux}
use Rattle.bk_func.specs.declared.parts.Kind.TheVariants.{Plain}
use Rattle.bk_func.specs.declared.parts.Likely.TheVariants.{No}
use Rattle.bk_func.specs.Records.{ValueRecord, BlockRecord, FuncRecord}

-- the greatest number of a value, 0 where there is none
abbrev pub greatest_value : FuncRecord → ℕ
greatest_value f = fold (λ g b. fold (λ g v. max g v.id) g b.values) 0 f.blocks

-- the greatest number of a block, 0 where there is none
abbrev pub greatest_block : FuncRecord → ℕ
greatest_block f = fold (λ g b. max g b.id) 0 f.blocks

-- the place of the first block with this number
abbrev pub place_of : FuncRecord → ℕ → Option ℕ
place_of f id = position (λ b. b.id == id) f.blocks

-- the first block with this number
abbrev pub block_of : FuncRecord → ℕ → Option BlockRecord
block_of f id = find (λ b. b.id == id) f.blocks

-- the blocks, the first with this number being changed
unfoldable pub change_block : ℕ → (BlockRecord → BlockRecord) → List BlockRecord → List BlockRecord
change_block id change [] = []
change_block id change (b ∷ bs) = if b.id == id then change b ∷ bs else b ∷ change_block id change bs

abbrev pub with_value : ValueRecord → BlockRecord → BlockRecord
with_value v b = record b { values = b.values ++ v ∷ [] }

abbrev pub value_of : ℕ → Op → Ty → List ℕ → ℤ → Aux → ValueRecord
value_of id op ty args int aux = record { id = id; op = op; ty = ty; args = args; int = int; aux = aux }

-- the function with a value more, last in a block
abbrev pub added : FuncRecord → ℕ → ValueRecord → FuncRecord
added f block v = record f { blocks = change_block block (with_value v) f.blocks }

-- how many argument places of a value name the number
abbrev pub value_uses : ℕ → ValueRecord → ℕ
value_uses id v = count_by (λ x. x == id) v.args

abbrev pub control_uses : ℕ → Option ℕ → ℕ
control_uses id None = 0
control_uses id (Some c) = if c == id then 1 else 0

abbrev pub block_uses : ℕ → BlockRecord → ℕ
block_uses id b = control_uses id b.control + sum_by (value_uses id) b.values

-- how many argument places and controls name the number
abbrev pub uses_of : FuncRecord → ℕ → ℕ
uses_of f id = sum_by (block_uses id) f.blocks

-- the number that stands for x where new replaces old
abbrev pub renamed : ℕ → ℕ → ℕ → ℕ
renamed old new x = if x == old then new else x

abbrev pub renamed_control : ℕ → ℕ → Option ℕ → Option ℕ
renamed_control old new None = None
renamed_control old new (Some c) = Some (renamed old new c)

abbrev pub renamed_value : ℕ → ℕ → ValueRecord → ValueRecord
renamed_value old new v = record v { args = map (renamed old new) v.args }

abbrev pub renamed_block : ℕ → ℕ → BlockRecord → BlockRecord
renamed_block old new b = record b {
  control = renamed_control old new b.control;
  values = map (renamed_value old new) b.values;
}

-- the function with each use of old replaced by new
abbrev pub replaced : FuncRecord → ℕ → ℕ → FuncRecord
replaced f old new = record f { blocks = map (renamed_block old new) f.blocks }

-- the place of the x that k others stand before, the length where there is none
unfoldable pub nth_place : ℕ → ℕ → List ℕ → ℕ
nth_place x k [] = 0
nth_place x k (z ∷ zs) = if z == x then (if k == 0 then 0 else 1 + nth_place x (k - 1) zs) else 1 + nth_place x k zs

-- the successor at this place of the first block with this number; 0 where it has none
abbrev pub successor_in : Option BlockRecord → ℕ → ℕ
successor_in None index = 0
successor_in (Some b) index = slice_index b.succs index

-- how many edges before this one go to its successor
abbrev pub rank_in : Option BlockRecord → ℕ → ℕ
rank_in None index = 0
rank_in (Some b) index = count_by (λ s. s == slice_index b.succs index) (take index b.succs)

-- the block that stands on an edge from one block to another
abbrev pub between : ℕ → ℕ → ℕ → BlockRecord
between id from to = record {
  id = id;
  kind = Plain;
  control = None;
  preds = from ∷ [];
  succs = to ∷ [];
  likely = No;
  values = [];
}

abbrev pub with_succ : ℕ → ℕ → BlockRecord → BlockRecord
with_succ index id b = record b { succs = slice_set b.succs index id }

abbrev pub with_pred : ℕ → ℕ → ℕ → BlockRecord → BlockRecord
with_pred from id k b = record b { preds = slice_set b.preds (nth_place from k b.preds) id }

-- the blocks with the edge from one block to another, of rank k, going through the new block id, which is last
abbrev pub through : ℕ → ℕ → ℕ → ℕ → ℕ → List BlockRecord → List BlockRecord
through id from index to k bs =
    change_block to (with_pred from id k) (change_block from (with_succ index id) bs) ++ between id from to ∷ []

-- the function with an empty block on the edge: of several edges from one block to the same successor, the k-th among
-- the successors has the k-th place of that block among the predecessors
abbrev pub split : FuncRecord → ℕ → ℕ → FuncRecord
split f from index = record f {
  blocks = through (greatest_block f + 1) from index (successor_in (block_of f from) index) (rank_in (block_of f from) index) f.blocks;
}

-- the block has a successor at this place, and the successor is a block
pub record IsEdge (f : FuncRecord) (from index : ℕ) : Type 0 where
  pub block : IsSome (place_of f from)
  pub within : IfSome (block_of f from) (λ b. index < length b.succs)
  pub successor : IsSome (place_of f (successor_in (block_of f from) index))
