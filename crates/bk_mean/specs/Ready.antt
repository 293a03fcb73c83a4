-- What is known of a function before a run.
use Rattle.std.specs.Prelude.{◌≡◌, ℕ, ◌+◌, ◌<◌, ◌==◌, Bool, true, false, if◌then◌else◌, List, [], ◌∷◌, length, map, flat_map, filter, take, position, slice_index, slice_get, get_or, Option, Some, None, option_and_then}
use Rattle.std.specs.List.{AllZip}
use Rattle.bk_ops.specs.Families.{is_word_call}
use Rattle.bk_func.specs.Records.{ValueRecord, BlockRecord, FuncRecord, PackageRecord}
use Rattle.bk_func.specs.Edits.{block_of, nth_place}
use Rattle.bk_func.specs.Numbers.{Origin, result, origin_of, values_of, room, natural, address_of}
use Rattle.bk_func.specs.Effects.{is_phi, is_at}
use Rattle.bk_func.specs.Symbols.{symbol_of}
use Rattle.bk_func.specs.Meaning.{is_make_result, edge_place}
use Rattle.bk_mean.specs.declared.ready.Ready.{Ready}
use Rattle.bk_mean.specs.declared.ready.ReadyValue.{ReadyValue}
use Rattle.bk_mean.specs.declared.ready.ReadyBlock.{ReadyBlock}
use Rattle.bk_mean.specs.declared.ready.Edge.{Edge}
use Rattle.bk_mean.specs.declared.ready.Kept.{Kept}
use Rattle.bk_mean.specs.Arranged.{IsOrdered}
use Rattle.bk_mean.specs.Numbering.{found_in, place_in}
use Rattle.bk_mean.specs.Symbols.{callee_of}

pub record IsReadyValue (p : PackageRecord) (f : FuncRecord) (v : ValueRecord) (r : ReadyValue) : Type 0 where
  pub args : r.args.items ≡ map (place_in f) v.args
  pub address : r.address ≡ address_of p v.aux
  pub callee : r.callee ≡ callee_of p (symbol_of v.aux)
  pub on_words : r.on_words ≡ is_word_call v.op.family
  pub gives_results : r.gives_results ≡ is_make_result v.op.family

abbrev pub AreReadyValues : PackageRecord → FuncRecord → List ValueRecord → List ReadyValue → Type 0
AreReadyValues p f vs rs = AllZip (IsReadyValue p f) vs rs

-- the place of the call that a value is a result of
abbrev pub is_result : Origin → Bool
is_result result = true
is_result _ = false

abbrev pub call_place : FuncRecord → ValueRecord → Option ℕ
call_place f v = if is_result (origin_of v.op.family) then option_and_then (found_in f) (slice_get v.args 0) else None

-- what a value keeps of the results of its call
abbrev pub kept_by : FuncRecord → ValueRecord → Kept
kept_by f v = record { index = natural v.int; place = place_in f v.id; family = v.op.family; ty = v.ty }

-- what is kept of the results of the call at a place
abbrev pub results_at : FuncRecord → ℕ → List ValueRecord → List Kept
results_at f k vs = map (kept_by f) (filter (λ v. is_at (call_place f v) k) vs)

-- for each value, by places, what is kept of its results
pub record KeepsResults (f : FuncRecord) (vs : List ValueRecord) (kept : List (List Kept)) : Type 0 where
  pub each : (k : ℕ) → k < room f → get_or kept k [] ≡ results_at f k vs

-- the phis among values, by their places, where the first has the place n
abbrev pub phis_from : ℕ → List ValueRecord → List ℕ
phis_from n [] = []
phis_from n (v ∷ vs) = if is_phi (origin_of v.op.family) then n ∷ phis_from (n + 1) vs else phis_from (n + 1) vs

-- the place of the control: that after all values where there is none
abbrev pub control_place : FuncRecord → Option ℕ → ℕ
control_place f None = room f
control_place f (Some id) = place_in f id

-- the place of the edge of a rank from a block among the predecessors of another, if that is there
abbrev pub nth_in : ℕ → ℕ → Option BlockRecord → ℕ
nth_in from rank None = 0
nth_in from rank (Some c) = nth_place from rank c.preds

pub record IsReadyEdge (f : FuncRecord) (b : BlockRecord) (index : ℕ) (e : Edge) : Type 0 where
  pub block : e.block ≡ position (λ c. c.id == slice_index b.succs index) f.blocks
  pub place : e.place ≡ edge_place b index (block_of f (slice_index b.succs index))

-- a block of the function stands where so many values stand in the blocks before it
abbrev pub count_values : List BlockRecord → ℕ
count_values bs = length (flat_map (λ b. b.values) bs)

pub record StandsAt (f : FuncRecord) (count : ℕ) (b : BlockRecord) : Type 0 where
  pub index : ℕ
  pub block : slice_get f.blocks index ≡ Some b
  pub count_is : count ≡ count_values (take index f.blocks)

-- what is known of a block there
pub record IsReadyBlock (f : FuncRecord) (count : ℕ) (b : BlockRecord) (r : ReadyBlock) : Type 0 where
  pub first : r.first ≡ count
  pub order : IsOrdered f b r.order.items
  pub phis : r.phis.items ≡ phis_from 0 b.values
  pub control : r.control ≡ control_place f b.control
  pub edge : IsReadyEdge f b 0 r.edge
  pub other : IsReadyEdge f b 1 r.other

-- the first n blocks of the function
pub record AreReadyBlocks (f : FuncRecord) (bs : List BlockRecord) (n : ℕ) (rs : List ReadyBlock) : Type 0 where
  pub length : length rs ≡ n
  pub each : (i : ℕ) (b : BlockRecord) (r : ReadyBlock) → i < n → slice_get bs i ≡ Some b → slice_get rs i ≡ Some r → IsReadyBlock f (count_values (take i bs)) b r

pub record IsReady (p : PackageRecord) (f : FuncRecord) (r : Ready) : Type 0 where
  pub values : AreReadyValues p f (values_of f) r.values.items
  pub kept : length r.kept.items ≡ room f
  pub results : KeepsResults f (values_of f) (map (λ v. v.items) r.kept.items)
  pub blocks : AreReadyBlocks f f.blocks (length f.blocks) r.blocks.items
