-- The order in which the blocks of a function are laid out.
use Rattle.std.specs.Prelude.{ℕ, zero, suc, Bool, not, ◌&&◌, ◌==◌, if◌then◌else◌, List, [], ◌∷◌, ◌++◌, length, Option, None, Some, option_map, slice_get}
use Rattle.std.specs.List.{find, list_any, last_or}
use Rattle.std.specs.Option.{option_or}
use Rattle.bk_func.specs.declared.parts.Likely.{Likely}
use Rattle.bk_func.specs.declared.parts.Likely.TheVariants.{No, First, Second}
use Rattle.bk_func.specs.Records.{BlockRecord, FuncRecord}
use Rattle.bk_func.specs.Edits.{block_of}

-- the number is among those that are placed
abbrev pub is_placed : List ℕ → ℕ → Bool
is_placed placed n = list_any (λ m. m == n) placed

-- the successor that the block is expected to take
abbrev pub marked : Likely → List ℕ → Option ℕ
marked No ss = None
marked First ss = slice_get ss 0
marked Second ss = slice_get ss 1

abbrev pub if_unplaced : List ℕ → Option ℕ → Option ℕ
if_unplaced placed None = None
if_unplaced placed (Some n) = if is_placed placed n then None else Some n

-- the unplaced successor that follows the block: the marked one, else the first
abbrev pub next_successor : List ℕ → Option BlockRecord → Option ℕ
next_successor placed None = None
next_successor placed (Some b) =
    option_or (if_unplaced placed (marked b.likely b.succs)) (find (λ n. not (is_placed placed n)) b.succs)

-- the block is not placed and has a predecessor that is
abbrev pub is_ready : List ℕ → BlockRecord → Bool
is_ready placed b = not (is_placed placed b.id) && list_any (is_placed placed) b.preds

abbrev pub block_named : FuncRecord → Option ℕ → Option BlockRecord
block_named f None = None
block_named f (Some n) = block_of f n

-- the block that comes after those that are placed: a successor of the last, else the first in list order that is ready
abbrev pub next_block : FuncRecord → List ℕ → Option ℕ
next_block f placed =
    option_or (next_successor placed (block_named f (last_or None placed))) (option_map (λ b. b.id) (find (is_ready placed) f.blocks))

abbrev pub onward : Option ℕ → List ℕ → (List ℕ → List ℕ) → List ℕ
onward None placed rest = placed
onward (Some n) placed rest = rest (placed ++ n ∷ [])

-- the placed blocks, and at most k that come after them
unfoldable pub laid_out : ℕ → FuncRecord → List ℕ → List ℕ
laid_out zero f placed = placed
laid_out (suc k) f placed = onward (next_block f placed) placed (laid_out k f)

-- the numbers of the blocks in their order, the entry first
abbrev pub layout_from : FuncRecord → List BlockRecord → List ℕ
layout_from f [] = []
layout_from f (b ∷ bs) = laid_out (length bs) f (b.id ∷ [])

abbrev pub layout_of : FuncRecord → List ℕ
layout_of f = layout_from f f.blocks
