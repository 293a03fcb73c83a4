-- The states that walks carry from block to block, by places.
use Rattle.std.specs.Prelude.{◌≡◌, ◌↔◌, ℕ, Bool, true, false, List, [], length, Option, None, Some, MatchOption, cond, slice_index_or, ◌⊎◌}
use Rattle.std.specs.List.{Contains, slice_get}
use Rattle.bk_func.specs.Records.{BlockRecord, FuncRecord}
use Rattle.bk_func.specs.Form.Walks.{IsReached}
use Rattle.bk_func.specs.Form.States.{IsFirstState}
use Rattle.bk_form.specs.declared.chains.Chain.{Chain}
use Rattle.bk_form.specs.declared.chains.Chain.TheVariants.{Empty, Linked}
use Rattle.bk_places.specs.Search.{IsEdge, IsMarked, PathFrom}
use Rattle.bk_form.specs.Places.{NodeRecord, nodes_of}

-- the place is that of the one value with a number of which the fact holds, if there is such a number
abbrev pub IsPlaceOf : FuncRecord → (ℕ → Type 0) → Option ℕ → Type 0
IsPlaceOf f P o = MatchOption o ((s : ℕ) → ¬ P s) (λ p. (m : NodeRecord) × (slice_get (nodes_of f) p ≡ Some m) × ((s : ℕ) → P s ↔ (s ≡ m.value.id)))

-- whether walks leave the block with the state that they lead to it with
abbrev pub is_open : Option Chain → Bool
is_open (Some Empty) = true
is_open _ = false

-- what walks leave the block with: its last state, or where it has none what they lead to it with
abbrev pub out_of : Option Chain → Option ℕ → Option ℕ
out_of (Some (Linked first last)) o = Some last
out_of (Some Empty) o = o
out_of _ o = None

-- the state, if there is no mark
abbrev pub unmarked : Option ℕ → Option ℕ → Option ℕ
unmarked None o = o
unmarked (Some m) o = None

-- the last state of a block that is reached
abbrev pub source_of : Option Chain → Bool → Option ℕ
source_of (Some (Linked first last)) true = Some last
source_of _ _ = None

-- the edges that lead on from blocks without states
pub record AreOpen (es : List (List ℕ)) (cs : List Chain) (os : List (List ℕ)) : Type 0 where
  pub size : length os ≡ length es
  pub each : (p : ℕ) → slice_index_or os p [] ≡ cond (is_open (slice_get cs p)) (slice_index_or es p []) []

-- for each block a state that some walk leads to it with
pub record AreIncoming (es os : List (List ℕ)) (cs : List Chain) (rs : List Bool) (ls : List (Option ℕ)) : Type 0 where
  pub from : (p l : ℕ) → slice_index_or ls p None ≡ Some l
      → (x : ℕ) × (source_of (slice_get cs x) (slice_index_or rs x false) ≡ Some l) × PathFrom os (length es) (slice_index_or es x []) p
  pub found : (x l p : ℕ) → source_of (slice_get cs x) (slice_index_or rs x false) ≡ Some l → PathFrom os (length es) (slice_index_or es x []) p → IsMarked ls p

-- an edge from a block that is reached leads to the place, along which walks carry something else than what is noted there
abbrev pub Differs : List (List ℕ) → List Chain → List Bool → List (Option ℕ) → ℕ → ℕ → Type 0
Differs es cs rs ls x y = (slice_index_or rs x false ≡ true) × IsEdge es x y × ¬ (slice_index_or ls y None ≡ out_of (slice_get cs x) (slice_index_or ls x None))

-- the places of such edges, and the first place
pub record AreDiffering (es : List (List ℕ)) (cs : List Chain) (rs : List Bool) (ls : List (Option ℕ)) (ds : List ℕ) : Type 0 where
  pub start : Contains ds 0
  pub each : (x y : ℕ) → Differs es cs rs ls x y → Contains ds y
  pub only : (y : ℕ) → Contains ds y → (y ≡ 0) ⊎ ((x : ℕ) × Differs es cs rs ls x y)

-- for each block that is reached the state on all walks to it
pub record AreFirstStates (f : FuncRecord) (ss : List (Option ℕ)) : Type 0 where
  pub each : (i : ℕ) (b : BlockRecord) → slice_get f.blocks i ≡ Some b → IsReached f b → IsPlaceOf f (IsFirstState f b) (slice_index_or ss i None)

-- the places that were in the list, and those of the others of which the fact holds
pub record Gathers (P : ℕ → Type 0) (ps old new : List ℕ) : Type 0 where
  pub kept : (y : ℕ) → Contains old y → Contains new y
  pub added : (y : ℕ) → Contains ps y → P y → Contains new y
  pub only : (y : ℕ) → Contains new y → Contains old y ⊎ (Contains ps y × P y)
