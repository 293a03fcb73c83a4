-- The code of a placed function: its lines, the places of its blocks, and its words.
use Rattle.std.specs.Prelude.{◌≡◌, ℕ, ℤ, pos, ◌*ℤ◌, ◌-ℤ◌, ◌+◌, ◌==◌, true, false, if◌then◌else◌, List, [], ◌∷◌, ◌++◌, length, flat_map, drop, slice_get, slice_index, Option, Some, None, is_some, unwrap_or}
use Rattle.std.specs.List.{find}
use Rattle.bk_func.specs.Records.{ValueRecord, FuncRecord, StepRecord, load, store, do_value, move, PlacedBlockRecord, PlacedRecord}
use Rattle.bk_piece.specs.declared.Handle.{Handle}
use Rattle.bk_piece.specs.declared.Patch.{Patch}
use Rattle.bk_fixup.specs.declared.sizes.Branch.{Branch}
use Rattle.bk_fixup.specs.Keys.{key_of}
use Rattle.bk_piece.specs.Pieces.{PieceRecord}
use Rattle.bk_emit.specs.declared.blocks.Frame.{Frame}
use Rattle.bk_emit.specs.declared.lines.Line.{Line}
use Rattle.bk_emit.specs.declared.lines.Line.TheVariants as line
use Rattle.bk_emit.specs.declared.table.Regs.{Regs}
use Rattle.bk_emit.specs.Blocks.{load_slot, store_slot, move_lines, regs_of, block_end}
use Rattle.bk_emit.specs.Forms.{Entry, Forms}

-- the handles that are left behind a value, which takes one where it has a key
abbrev pub left_by : ValueRecord → List Handle → List Handle
left_by v hs = if is_some (key_of v) then drop 1 hs else hs

abbrev pub handle_by : ValueRecord → List Handle → Option Handle
handle_by v hs = if is_some (key_of v) then slice_get hs 0 else None

-- values with the handles of their keys, which stand in order
unfoldable pub handed : List ValueRecord → List Handle → List Entry
handed [] hs = []
handed (v ∷ vs) hs = (v, handle_by v hs) ∷ handed vs (left_by v hs)

-- the handles that are left behind values
unfoldable pub left_behind : List ValueRecord → List Handle → List Handle
left_behind [] hs = hs
left_behind (v ∷ vs) hs = left_behind vs (left_by v hs)

abbrev pub values_of : FuncRecord → List ValueRecord
values_of f = flat_map (λ b. b.values) f.blocks

-- the first value with this number
abbrev pub entry_of : List Entry → ℕ → Option Entry
entry_of es id = find (λ e. e.0.id == id) es

abbrev pub value_lines : Forms → Frame → Regs → Option Entry → List Line
value_lines m f r None = []
value_lines m f r (Some e) = m.unit e r f.bytes

-- the lines of a step
abbrev pub step_lines : Forms → Frame → (ℕ → Option Entry) → StepRecord → List Line
step_lines m f es (load reg slot) = load_slot m f reg slot
step_lines m f es (store reg slot) = store_slot m f reg slot
step_lines m f es (do_value value args place) = value_lines m f (regs_of args place) (es value)
step_lines m f es (move source destination) = move_lines m f source destination

-- the lines of a block, behind which the next stands
abbrev pub block_lines : Forms → Frame → (ℕ → Option Entry) → PlacedBlockRecord → Option ℕ → List Line
block_lines m f es b next = flat_map (step_lines m f es) b.steps ++ block_end m b next f.bytes

abbrev pub first_id : List PlacedBlockRecord → Option ℕ
first_id [] = None
first_id (b ∷ bs) = Some b.id

-- the lines of blocks in order
abbrev pub blocks_lines : Forms → Frame → (ℕ → Option Entry) → List PlacedBlockRecord → List Line
blocks_lines m f es [] = []
blocks_lines m f es (b ∷ bs) = block_lines m f es b (first_id bs) ++ blocks_lines m f es bs

-- the lines of a function: what it begins with, then its blocks
abbrev pub function_lines : Forms → Frame → (ℕ → Option Entry) → List PlacedBlockRecord → List Line
function_lines m f es bs = m.entry f.bytes ++ blocks_lines m f es bs

-- the line at which the first block with a number begins, 0 where there is none; the first of these blocks begins at a line
abbrev pub start_from : Forms → Frame → (ℕ → Option Entry) → ℕ → List PlacedBlockRecord → ℕ → ℕ
start_from m f es n [] at = 0
start_from m f es n (b ∷ bs) at = if b.id == n then at else start_from m f es n bs (at + length (block_lines m f es b (first_id bs)))

abbrev pub start_of : Forms → Frame → (ℕ → Option Entry) → List PlacedBlockRecord → ℕ → ℕ
start_of m f es bs n = start_from m f es n bs (length (m.entry f.bytes))

-- a line that is a branch or a jump
abbrev pub to_branch : (ℕ → ℕ) → ℕ → Line → List Branch
to_branch s at (line.Word x) = []
to_branch s at (line.Open p h x) = []
to_branch s at (line.Jump n) = record { at = at; target = s n; cond = false } ∷ []
to_branch s at (line.Branch b n) = record { at = at; target = s n; cond = true } ∷ []

-- the branches among lines, the first of which has this place; s gives the line of each block
abbrev pub branches_from : (ℕ → ℕ) → ℕ → List Line → List Branch
branches_from s at [] = []
branches_from s at (l ∷ ls) = to_branch s at l ++ branches_from s (at + 1) ls

-- the words of a line: one, or the first of the sizes of branches that are left
abbrev pub width_of : List ℕ → Line → ℕ
width_of zs (line.Word x) = 1
width_of zs (line.Open p h x) = 1
width_of zs (line.Jump n) = unwrap_or (slice_get zs 0) 1
width_of zs (line.Branch b n) = unwrap_or (slice_get zs 0) 1

abbrev pub sizes_behind : List ℕ → Line → List ℕ
sizes_behind zs (line.Word x) = zs
sizes_behind zs (line.Open p h x) = zs
sizes_behind zs (line.Jump n) = drop 1 zs
sizes_behind zs (line.Branch b n) = drop 1 zs

-- the words of each line, by the sizes of the branches
abbrev pub widths : List ℕ → List Line → List ℕ
widths zs [] = []
widths zs (l ∷ ls) = width_of zs l ∷ widths (sizes_behind zs l) ls

-- the place of each line in the code, the first of which has this place
abbrev pub places_from : ℕ → List ℕ → List ℕ
places_from at [] = []
places_from at (w ∷ ws) = at ∷ places_from (at + w) ws

-- the bytes from one place to another
abbrev pub distance : ℕ → ℕ → ℤ
distance from to = pos 4 *ℤ (pos to -ℤ pos from)

-- the place to which a line leads, 0 where it leads nowhere; g gives the place of each block
abbrev pub goal_of : (ℕ → ℕ) → Line → ℕ
goal_of g (line.Word x) = 0
goal_of g (line.Open p h x) = 0
goal_of g (line.Jump n) = g n
goal_of g (line.Branch b n) = g n

-- the words of a line of so many words at a place, which leads to another place
abbrev pub line_words : Forms → ℕ → ℕ → ℕ → Line → List ℕ
line_words m at w goal (line.Word x) = x ∷ []
line_words m at w goal (line.Open p h x) = x ∷ []
line_words m at w goal (line.Jump n) = m.jump w (distance at goal)
line_words m at w goal (line.Branch b n) = m.branch b w (distance at goal)

-- the words of lines of so many words each, the first of which stands at a place
abbrev pub words_from : Forms → (ℕ → ℕ) → ℕ → List ℕ → List Line → List ℕ
words_from m g at [] ls = []
words_from m g at (w ∷ ws) [] = []
words_from m g at (w ∷ ws) (l ∷ ls) = line_words m at w (goal_of g l) l ++ words_from m g (at + w) ws ls

-- what is patched, with the place of its first word
abbrev pub waits : ℕ → Line → List (ℕ × Patch × Handle)
waits at (line.Word x) = []
waits at (line.Open p h x) = (at, p, h) ∷ []
waits at (line.Jump n) = []
waits at (line.Branch b n) = []

abbrev pub waits_from : ℕ → List ℕ → List Line → List (ℕ × Patch × Handle)
waits_from at [] ls = []
waits_from at (w ∷ ws) [] = []
waits_from at (w ∷ ws) (l ∷ ls) = waits at l ++ waits_from (at + w) ws ls

-- where the block with a number begins, the lines having so many words
abbrev pub goal_in : (ℕ → ℕ) → List ℕ → ℕ → ℕ
goal_in s ws n = slice_index (places_from 0 ws) (s n)

-- the words of lines whose branches have their sizes, and what is patched in them; s gives the line of each block
pub record AreWritten (m : Forms) (s : ℕ → ℕ) (ls : List Line) (code : List ℕ) (handles : List (ℕ × Patch × Handle)) : Type 0 where
  pub sizes : List ℕ
  pub sized : m.sized (branches_from s 0 ls) sizes
  pub words : code ≡ words_from m (goal_in s (widths sizes ls)) 0 (widths sizes ls) ls
  pub waiting : handles ≡ waits_from 0 (widths sizes ls) ls

abbrev pub frame_of : PlacedRecord → ℕ → Frame
frame_of p bytes = record { bytes = bytes; out = p.out; slots = p.slots }

-- the piece of a placed function for a machine, in a frame of so many bytes, with the handles of its keys
pub record IsPiece (m : Forms) (f : FuncRecord) (p : PlacedRecord) (bytes : ℕ) (keys : List Handle) (piece : PieceRecord) : Type 0 where
  pub written :
      AreWritten
      m
      (start_of m (frame_of p bytes) (entry_of (handed (values_of f) keys)) p.blocks)
      (function_lines m (frame_of p bytes) (entry_of (handed (values_of f) keys)) p.blocks)
      piece.code
      piece.handles
  pub types : piece.types ≡ left_behind (values_of f) keys
  pub frame : piece.frame ≡ bytes
