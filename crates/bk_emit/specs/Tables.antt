-- The values of a function by their numbers, as the code has them.
use Rattle.std.specs.Prelude.{◌≡◌, ℕ, List, ◌++◌, length, drop, Option, option_map, unwrap_or}
use Rattle.std.specs.BTreeMap.{BTreeMap, get}
use Rattle.std.specs.Option.{option_or}
use Rattle.std.specs.Ordering.{nat_cmp}
use Rattle.bk_piece.specs.declared.Handle.{Handle}
use Rattle.bk_func.specs.Records.{ValueRecord, PlacedBlockRecord}
use Rattle.bk_emit.specs.declared.blocks.Frame.{Frame}
use Rattle.bk_emit.specs.declared.lines.Line.{Line}
use Rattle.bk_emit.specs.declared.table.Entry.{Entry}
use Rattle.bk_emit.specs.Forms as forms
use Rattle.bk_emit.specs.Code as spec

abbrev pub seen : Entry → forms.Entry
seen e = (e.value.now, e.handle)

-- what the table has under a number
abbrev pub look : BTreeMap ℕ Entry → ℕ → Option forms.Entry
look es id = option_map seen (get nat_cmp es id)

-- the line of a block, 0 where there is none
abbrev pub line_of : BTreeMap ℕ ℕ → ℕ → ℕ
line_of starts n = unwrap_or (get nat_cmp starts n) 0

-- the lines of the first so many blocks, and where these begin
pub record IsDrawn (m : forms.Forms) (f : Frame) (e : ℕ → Option forms.Entry) (bs : List PlacedBlockRecord) (k : ℕ) (ls : List Line) (starts : ℕ → Option ℕ) : Type 0 where
  pub lines : ls ++ spec.blocks_lines m f e (drop k bs) ≡ spec.function_lines m f e bs
  pub begun : (n : ℕ) → unwrap_or (starts n) (spec.start_from m f e n (drop k bs) (length ls)) ≡ spec.start_of m f e bs n

-- of all values some are left, and of the handles some are left for them, while the others are in the table
pub record IsPut (all left : List ValueRecord) (keys rest : List Handle) (before now : ℕ → Option forms.Entry) : Type 0 where
  pub handles : spec.left_behind left rest ≡ spec.left_behind all keys
  pub entries : (id : ℕ) → option_or (now id) (spec.entry_of (spec.handed left rest) id) ≡ option_or (before id) (spec.entry_of (spec.handed all keys) id)
