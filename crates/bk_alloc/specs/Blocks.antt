-- The blocks of a function in layout order: what registers hold where they begin and end, and what is done in each.
use Rattle.std.specs.Prelude.{ℕ, suc, ◌==◌, Bool, if◌then◌else◌, List, [], ◌∷◌, ◌++◌, map, replicate, slice_index, Option, None, Some}
use Rattle.std.specs.List.{find, fold, flat_map, list_any, position_or_len}
use Rattle.bk_func.specs.declared.parts.Kind.{Kind}
use Rattle.bk_func.specs.declared.parts.Loc.{Loc}
use Rattle.bk_func.specs.declared.parts.Loc.TheVariants.{Reg, Slot}
use Rattle.bk_func.specs.Records.{ValueRecord}
use Rattle.bk_shuffle.specs.Sequence.{Move}
use Rattle.bk_alloc.specs.Registers.{Registers, Uses, holds, least_open, put, freed}
use Rattle.bk_alloc.specs.Tasks.{TaskRecord, ActRecord, where_is, with_loads, loads, after_tasks, acts_of_tasks}

-- a phi that is a word, and its arguments
pub record PhiRecord : Type 0 where
  pub value : ℕ
  pub args : List ℕ

abbrev pub phi_of : ValueRecord → PhiRecord
phi_of v = record { value = v.id; args = v.args }

-- a block as it is allocated: its phis that are words, how many phis its order begins with, its other values, the length of
-- its order, and the control of an If
pub record PlanRecord : Type 0 where
  pub id : ℕ
  pub kind : Kind
  pub phis : List PhiRecord
  pub skipped : ℕ
  pub tasks : List TaskRecord
  pub size : ℕ
  pub control : Option ℕ
  pub preds : List ℕ
  pub succs : List ℕ

-- a block that is allocated: what registers hold at its start, phis among it, and at its end, and what is done
pub record PartRecord : Type 0 where
  pub plan : PlanRecord
  pub first : Registers
  pub last : Registers
  pub acts : List ActRecord

-- the next uses of values after so many entries of the order of a block, the block given by its number
abbrev pub Next : Type 0
Next = ℕ → ℕ → Uses

-- each phi takes the least open register, if there is one
abbrev pub with_phi : Registers → ℕ → Registers
with_phi rs v = put rs (least_open rs) v

-- the values of the predecessor's end that are live stay, and the phis are added
abbrev pub begun : Uses → List ℕ → Registers → Registers
begun n phis before = fold with_phi (freed n before) phis

abbrev pub phis_of : PlanRecord → List ℕ
phis_of b = map (λ p. p.value) b.phis

abbrev pub first_map : Next → PlanRecord → Registers → Registers
first_map next b before = begun (next b.id 0) (phis_of b) before

-- a control is loaded as an argument is
abbrev pub controls : Option ℕ → List ℕ
controls None = []
controls (Some c) = c ∷ []

-- what registers hold behind the block's values, where they hold these behind its phis
abbrev pub behind : (ℕ → Uses) → PlanRecord → Registers → Registers
behind next b first = after_tasks next b.skipped b.tasks first

abbrev pub last_map : (ℕ → Uses) → PlanRecord → Registers → Registers
last_map next b first = with_loads (next b.size) (controls b.control) (controls b.control) (behind next b first)

abbrev pub block_acts : (ℕ → Uses) → PlanRecord → Registers → List ActRecord
block_acts next b first =
    acts_of_tasks next b.skipped b.tasks first ++ loads (next b.size) (controls b.control) (controls b.control) (behind next b first)

abbrev pub part_from : Next → PlanRecord → Registers → PartRecord
part_from next b first = record {
  plan = b;
  first = first;
  last = last_map (next b.id) b first;
  acts = block_acts (next b.id) b first;
}

abbrev pub part_of : Next → PlanRecord → Registers → PartRecord
part_of next b before = part_from next b (first_map next b before)

abbrev pub is_before : List ℕ → PartRecord → Bool
is_before preds p = list_any (λ n. p.plan.id == n) preds

-- the registers at the end of the predecessor that is first in the layout; without one they hold no value
abbrev pub last_or_none : ℕ → Option PartRecord → Registers
last_or_none count None = replicate count None
last_or_none count (Some p) = p.last

abbrev pub before_plan : ℕ → List PartRecord → List ℕ → Registers
before_plan count ps preds = last_or_none count (find (is_before preds) ps)

abbrev pub with_part : Next → ℕ → List PartRecord → PlanRecord → List PartRecord
with_part next count ps b = ps ++ part_of next b (before_plan count ps b.preds) ∷ []

-- all blocks, in layout order, with so many registers
unfoldable pub allot : Next → ℕ → List PlanRecord → List PartRecord
allot next count bs = fold (with_part next count) [] bs

-- what the value is where the block is left for the k-th time into the block of these phis: a phi's argument, or itself
abbrev pub source_by : Option PhiRecord → ℕ → ℕ → ℕ
source_by None k v = v
source_by (Some p) k v = slice_index p.args k

abbrev pub source_of : List PhiRecord → ℕ → ℕ → ℕ
source_of ps k v = source_by (find (λ p. p.value == v) ps) k v

-- each register of the successor's first map is the destination of a move
abbrev pub register_moves : (ℕ → Loc) → ℕ → Registers → List Move
register_moves from r [] = []
register_moves from r (None ∷ rs) = register_moves from (suc r) rs
register_moves from r (Some v ∷ rs) = (from v, Reg r) ∷ register_moves from (suc r) rs

-- and each phi that begins in its slot
abbrev pub in_slot : Registers → ℕ → List ℕ
in_slot rs v = if holds rs v then [] else v ∷ []

abbrev pub slot_phis : PartRecord → List ℕ
slot_phis p = flat_map (λ x. in_slot p.first x.value) p.plan.phis

-- where a value of the successor's start is, at the end of the block
abbrev pub edge_from : ℕ → PartRecord → ℕ
edge_from m s = position_or_len (λ n. n == m) s.plan.preds

abbrev pub source_at : PartRecord → PartRecord → ℕ → Loc
source_at p s v = where_is p.last (source_of s.plan.phis (edge_from p.plan.id s) v)

abbrev pub slot_move : PartRecord → PartRecord → ℕ → Move
slot_move p s v = (source_at p s v, Slot v)

abbrev pub moves_into : PartRecord → PartRecord → List Move
moves_into p s = register_moves (source_at p s) 0 s.first ++ map (slot_move p s) (slot_phis s)

abbrev pub into_one : PartRecord → Option PartRecord → List Move
into_one p None = []
into_one p (Some s) = moves_into p s

abbrev pub part_named : List PartRecord → ℕ → Option PartRecord
part_named ps n = find (λ s. s.plan.id == n) ps

-- only a block with one successor has moves at its end
abbrev pub moves_to : List PartRecord → PartRecord → List ℕ → List Move
moves_to ps p [] = []
moves_to ps p (n ∷ []) = into_one p (part_named ps n)
moves_to ps p (n ∷ m ∷ ns) = []

abbrev pub end_moves : List PartRecord → PartRecord → List Move
end_moves ps p = moves_to ps p p.plan.succs
