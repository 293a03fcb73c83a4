-- What is kept of the blocks that are placed.
use Rattle.std.specs.Prelude.{◌≡◌, ℕ, ◌==◌, Bool, true, false, if◌then◌else◌, List, [], ◌∷◌, length, Option, None, Some, option_map, option_and_then, slice_get, slice_index_or}
use Rattle.std.specs.List.{last_or}
use Rattle.std.specs.Option.{option_or}
use Rattle.std.specs.BTreeMap.{get}
use Rattle.std.specs.BTreeSet.{contains}
use Rattle.std.specs.Ordering.{nat_cmp}
use Rattle.bk_func.specs.Records.{BlockRecord, FuncRecord}
use Rattle.bk_graph.specs.declared.places.Places.{Places}
use Rattle.bk_graph.specs.declared.order.Order.{Order}
use Rattle.bk_graph.specs.Joined.{IsJoined}
use Rattle.bk_graph.specs.Layout.{is_placed, is_ready, marked, block_named, onward}
use Rattle.bk_graph.specs.Named.{AreFirsts, block_ids}

-- the place, unless the block there is placed
abbrev pub if_free : List Bool → Option ℕ → Option ℕ
if_free placed None = None
if_free placed (Some p) = if slice_index_or placed p true then None else Some p

abbrev pub unplaced_in : Places → List Bool → ℕ → Option ℕ
unplaced_in m placed n = if_free placed (get nat_cmp m.places n)

unfoldable pub first_in : Places → List Bool → List ℕ → Option ℕ
first_in m placed [] = None
first_in m placed (n ∷ ns) = option_or (unplaced_in m placed n) (first_in m placed ns)

abbrev pub names : ℕ → Option ℕ → Bool
names q None = false
names q (Some p) = p == q

abbrev pub ready_at : List ℕ → Option BlockRecord → Bool
ready_at placed None = false
ready_at placed (Some b) = is_ready placed b

abbrev pub number_at : FuncRecord → ℕ → Option ℕ
number_at f p = option_map (λ b. b.id) (slice_get f.blocks p)

-- the place of the unplaced successor that follows the block: the marked one, else the first
abbrev pub next_place : Places → List Bool → Option BlockRecord → Option ℕ
next_place m placed None = None
next_place m placed (Some b) = option_or (option_and_then (unplaced_in m placed) (marked b.likely b.succs)) (first_in m placed b.succs)

-- what is kept agrees with the numbers of the placed blocks
pub record IsOrder (o : Order) : Type 0 where
  pub given : IsJoined o.func.now
  pub firsts : AreFirsts (block_ids o.func.now.blocks) o.places.now
  pub size : length o.placed.items ≡ length o.func.now.blocks
  pub placed : (p : ℕ) (b : BlockRecord) → slice_get o.func.now.blocks p ≡ Some b → slice_index_or o.placed.items p true ≡ is_placed o.numbers.items b.id
  pub ready : (p : ℕ) → contains nat_cmp o.ready p ≡ ready_at o.numbers.items (slice_get o.func.now.blocks p)
  pub last : option_and_then (slice_get o.func.now.blocks) o.last ≡ block_named o.func.now (last_or None o.numbers.items)

-- the order with this number behind those of the blocks that were placed
pub record IsAfter (o n : Order) (next : Option ℕ) : Type 0 where
  pub order : IsOrder n
  pub func : n.func.now ≡ o.func.now
  pub numbers : n.numbers.items ≡ onward next o.numbers.items (λ ns. ns)
