-- Which placed functions are the placement of a function.
use Rattle.std.specs.Prelude.{◌≡◌, ℕ, ◌==◌, ◌&&◌, not, Bool, true, false, List, [], ◌∷◌, length, map, filter, count_by, slice_index, position, Option, None, Some}
use Rattle.std.specs.List.{filter_map, list_any, slice_get}
use Rattle.std.specs.Option.{option_and_then}
use Rattle.bk_ops.specs.declared.family.Family.{Family}
use Rattle.bk_ops.specs.declared.family.Family.TheVariants as op
use Rattle.bk_ops.specs.declared.types.Target.{Target}
use Rattle.bk_ops.specs.declared.types.Target.TheVariants.{Arm, Riscv64}
use Rattle.bk_ops.specs.declared.types.Ty.{Ty}
use Rattle.bk_ops.specs.declared.types.Ty.TheVariants.{Mem, Void, Tuple}
use Rattle.bk_ops.specs.Families.{is_nil_check, is_phi}
use Rattle.bk_func.specs.declared.parts.Kind.{Kind}
use Rattle.bk_func.specs.declared.parts.Kind.TheVariants.{If}
use Rattle.bk_func.specs.Numbers.{natural, value_in}
use Rattle.bk_func.specs.Records.{ValueRecord, BlockRecord, FuncRecord, PackageRecord, PlacedBlockRecord, PlacedRecord}
use Rattle.bk_alloc.specs.declared.acts.Role.{Role}
use Rattle.bk_alloc.specs.declared.acts.Role.TheVariants.{Plain, Taken, Calls, Leaves}
use Rattle.bk_alloc.specs.Tasks.{TaskRecord}
use Rattle.bk_alloc.specs.Blocks.{Next, PartRecord, PlanRecord, allot, phi_of}
use Rattle.bk_alloc.specs.Outgoing.{IsOutgoing}
use Rattle.bk_alloc.specs.Placing.{AreHomes, placed_part}

-- the machine's numbers of a target's registers, in the order in which they are taken
abbrev pub registers_of : Target → List ℕ
registers_of Arm = 0 ∷ 1 ∷ 2 ∷ 3 ∷ 4 ∷ 5 ∷ 6 ∷ 7 ∷ 8 ∷ 9 ∷ 12 ∷ []
registers_of Riscv64 =
    5 ∷ 6 ∷ 7 ∷ 8 ∷ 9 ∷ 10 ∷ 11 ∷ 12 ∷ 13 ∷ 14 ∷ 15 ∷ 16 ∷ 17 ∷ 18 ∷ 19 ∷ 20 ∷ 21 ∷ 22 ∷ 23 ∷ 24 ∷ 25 ∷ 26 ∷ 28 ∷ 29 ∷ 30 ∷ []

abbrev pub number_of : Target → ℕ → ℕ
number_of t r = slice_index (registers_of t) r

-- memory, nil checks and the results of a call together take no register and no slot
abbrev pub has_word_of : Ty → Bool
has_word_of Mem = false
has_word_of Void = false
has_word_of Tuple = false
has_word_of _ = true

abbrev pub has_word : ValueRecord → Bool
has_word v = has_word_of v.ty && not (is_nil_check v.op.family)

abbrev pub is_word_named : ℕ → ValueRecord → Bool
is_word_named n v = has_word v && v.id == n

-- a value with this number is a word
abbrev pub is_word : List BlockRecord → ℕ → Bool
is_word bs n = list_any (λ b. list_any (is_word_named n) b.values) bs

abbrev pub role_by : Family → ℕ → Role
role_by op.ArgReg w = Taken w
role_by op.ResReg w = Taken w
role_by op.Call w = Calls
role_by op.CallRegs w = Calls
role_by op.RetRegs w = Leaves
role_by _ w = Plain

abbrev pub role_of : ValueRecord → Role
role_of v = role_by v.op.family (natural v.int)

abbrev pub task_of : (ℕ → Bool) → ValueRecord → TaskRecord
task_of word v = record { value = v.id; role = role_of v; args = filter word v.args; gives = has_word v }

abbrev pub is_phi_value : ValueRecord → Bool
is_phi_value v = is_phi v.op.family

abbrev pub is_word_phi : ValueRecord → Bool
is_word_phi v = is_phi_value v && has_word v

abbrev pub is_scheduled : ValueRecord → Bool
is_scheduled v = not (is_phi_value v)

-- the block's values in the order
abbrev pub ordered : List ValueRecord → List ℕ → List ValueRecord
ordered vs order = filter_map (value_in vs) order

abbrev pub control_of : Kind → Option ℕ → Option ℕ
control_of If c = c
control_of _ c = None

abbrev pub plan_of : (ℕ → Bool) → BlockRecord → List ℕ → PlanRecord
plan_of word b order = record {
  id = b.id;
  kind = b.kind;
  phis = map phi_of (filter is_word_phi (ordered b.values order));
  skipped = count_by is_phi_value (ordered b.values order);
  tasks = map (task_of word) (filter is_scheduled (ordered b.values order));
  size = length order;
  control = control_of b.kind b.control;
  preds = b.preds;
  succs = b.succs;
}

-- the block with this number and its order
abbrev pub plan_by : (ℕ → Bool) → Option BlockRecord → Option (List ℕ) → Option PlanRecord
plan_by word None o = None
plan_by word (Some b) None = None
plan_by word (Some b) (Some o) = Some (plan_of word b o)

abbrev pub plan_at : List BlockRecord → List (List ℕ) → ℕ → Option PlanRecord
plan_at bs orders i = plan_by (is_word bs) (slice_get bs i) (slice_get orders i)

unfoldable pub planned : List BlockRecord → List (List ℕ) → ℕ → Option PlanRecord
planned bs orders n = option_and_then (plan_at bs orders) (position (λ b. b.id == n) bs)

-- in the order of the layout
abbrev pub laid_out : List BlockRecord → List ℕ → List (List ℕ) → List PlanRecord
laid_out bs layout orders = filter_map (planned bs orders) layout

-- the blocks with their values in registers
abbrev pub allotted : Next → Target → FuncRecord → List ℕ → List (List ℕ) → List PartRecord
allotted next t f layout orders = allot next (length (registers_of t)) (laid_out f.blocks layout orders)

-- these are the placed blocks and the count of slots of the allocated ones
pub record IsPlacing (t : Target) (ps : List PartRecord) (bs : List PlacedBlockRecord) (slots : ℕ) : Type 0 where
  pub homes : List ℕ
  pub are : AreHomes ps homes
  pub blocks : bs ≡ map (placed_part (number_of t) homes ps) ps
  pub count : slots ≡ length homes

-- the placement by these next uses
pub record IsPlacement (next : Next) (t : Target) (p : PackageRecord) (f : FuncRecord) (layout : List ℕ) (orders : List (List ℕ)) (r : PlacedRecord) : Type 0 where
  pub placing : IsPlacing t (allotted next t f layout orders) r.blocks r.slots
  pub out : IsOutgoing t p f r.out
