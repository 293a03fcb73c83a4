-- The placed function that an allotment gives.
use Rattle.std.specs.Prelude.{◌↔◌, ℕ, ◌<◌, ◌==◌, nat_lt, Bool, true, false, not, if◌then◌else◌, List, [], ◌∷◌, ◌++◌, length, map, filter, Option, None, Some}
use Rattle.std.specs.List.{AllPairs, Contains, flat_map, position_or_len}
use Rattle.std.specs.Option.{option_map}
use Rattle.bk_func.specs.declared.parts.Loc.{Loc}
use Rattle.bk_func.specs.declared.parts.Loc.TheVariants.{Reg, Slot, Swap}
use Rattle.bk_func.specs.Records.{StepRecord, do_value, move, store, PlacedBlockRecord}
use Rattle.bk_func.specs.Records as step
use Rattle.bk_shuffle.specs.Sequence.{Move, sequence_of}
use Rattle.bk_alloc.specs.Registers.{Registers, register_of, holds}
use Rattle.bk_alloc.specs.Tasks.{ActRecord, load, compute, take, call, leave, move_all}
use Rattle.bk_alloc.specs.Blocks.{PartRecord, end_moves, slot_phis}

-- a move of a place to itself is left out
abbrev pub is_same : Loc → Loc → Bool
is_same (Reg m) (Reg n) = m == n
is_same (Slot m) (Slot n) = m == n
is_same Swap Swap = true
is_same _ _ = false

abbrev pub goes_elsewhere : Move → Bool
goes_elsewhere m = not (is_same m.0 m.1)

abbrev pub needed_moves : List Move → List Move
needed_moves ms = filter goes_elsewhere ms

-- the values that moves take from their slots
abbrev pub slot_at : Loc → List ℕ
slot_at (Reg r) = []
slot_at (Slot v) = v ∷ []
slot_at Swap = []

abbrev pub slot_source : Move → List ℕ
slot_source m = slot_at m.0

abbrev pub slot_sources : List Move → List ℕ
slot_sources ms = flat_map slot_source (needed_moves ms)

-- the values that an act takes from their slots
abbrev pub values_loaded : ActRecord → List ℕ
values_loaded (load r v) = v ∷ []
values_loaded (move_all ms) = slot_sources ms
values_loaded _ = []

-- the values of a block that are loaded, and its phis that begin in their slots
abbrev pub slots_in : PartRecord → List ℕ
slots_in p = flat_map values_loaded p.acts ++ slot_phis p

abbrev pub slots_behind : List PartRecord → PartRecord → List ℕ
slots_behind ps p = slot_sources (end_moves ps p)

-- the values that have a slot: those that are loaded, or that moves take from a slot, and phis that begin in theirs
abbrev pub values_in_slots : List PartRecord → List ℕ
values_in_slots ps = flat_map slots_in ps ++ flat_map (slots_behind ps) ps

-- they in rising order
pub record AreHomes (ps : List PartRecord) (hs : List ℕ) : Type 0 where
  pub rising : AllPairs (λ u v. u < v) hs
  pub each : (v : ℕ) → Contains hs v ↔ Contains (values_in_slots ps) v

-- the number of a value's slot, or the count of slots
abbrev pub slot_of : List ℕ → ℕ → ℕ
slot_of hs v = position_or_len (λ h. h == v) hs

abbrev pub has_home : List ℕ → ℕ → Bool
has_home hs v = nat_lt (slot_of hs v) (length hs)

-- the name of a place: registers by the numbers that the machine has for them
abbrev pub name_of : (ℕ → ℕ) → List ℕ → Loc → Loc
name_of number hs (Reg r) = Reg (number r)
name_of number hs (Slot v) = Slot (slot_of hs v)
name_of number hs Swap = Swap

abbrev pub named : (ℕ → ℕ) → List ℕ → Move → Move
named number hs m = (name_of number hs m.0, name_of number hs m.1)

-- a value that has a slot and is put into a register is stored
abbrev pub store_of : (ℕ → ℕ) → List ℕ → ℕ → Option ℕ → List StepRecord
store_of number hs v None = []
store_of number hs v (Some r) = if has_home hs v then store (number r) (slot_of hs v) ∷ [] else []

-- moves at once, as moves that are done one after the other
abbrev pub moves_in_turn : (ℕ → ℕ) → List ℕ → List Move → List StepRecord
moves_in_turn number hs ms = map (λ m. move m.0 m.1) (sequence_of (map (named number hs) (needed_moves ms)))

abbrev pub steps_of : (ℕ → ℕ) → List ℕ → ActRecord → List StepRecord
steps_of number hs (load r v) = step.load (number r) (slot_of hs v) ∷ []
steps_of number hs (compute v rs to) = do_value v (map number rs) (option_map number to) ∷ store_of number hs v to
steps_of number hs (take v r) = do_value v [] (Some (number r)) ∷ store_of number hs v (Some r)
steps_of number hs (call v n) = do_value v [] None ∷ []
steps_of number hs (leave v n) = do_value v [] None ∷ []
steps_of number hs (move_all ms) = moves_in_turn number hs ms

-- phis that begin in registers are stored where the block begins
abbrev pub phi_store : (ℕ → ℕ) → List ℕ → Registers → ℕ → List StepRecord
phi_store number hs rs v = if holds rs v then store_of number hs v (Some (register_of rs v)) else []

abbrev pub phi_stores : (ℕ → ℕ) → List ℕ → PartRecord → List StepRecord
phi_stores number hs p = flat_map (λ x. phi_store number hs p.first x.value) p.plan.phis

-- the register of the control
abbrev pub control_in : (ℕ → ℕ) → PartRecord → Option ℕ
control_in number p = option_map (λ c. number (register_of p.last c)) p.plan.control

abbrev pub steps_with : (ℕ → ℕ) → List ℕ → PartRecord → List Move → List StepRecord
steps_with number hs p ms = phi_stores number hs p ++ (flat_map (steps_of number hs) p.acts ++ moves_in_turn number hs ms)

abbrev pub placed_with : (ℕ → ℕ) → List ℕ → PartRecord → List Move → PlacedBlockRecord
placed_with number hs p ms = record {
  id = p.plan.id;
  kind = p.plan.kind;
  control = control_in number p;
  succs = p.plan.succs;
  steps = steps_with number hs p ms;
}

abbrev pub placed_part : (ℕ → ℕ) → List ℕ → List PartRecord → PartRecord → PlacedBlockRecord
placed_part number hs ps p = placed_with number hs p (end_moves ps p)
