-- What is known of a function before its live values are searched.
use Rattle.std.specs.Prelude.{◌≡◌, ℕ, List, [], length, Option, None, Some}
use Rattle.std.specs.List.{Contains}
use Rattle.std.specs.Option.{unwrap_or}
use Rattle.std.specs.declared.vec.Vec.{Vec}
use Rattle.bk_func.specs.Records.{FuncRecord}
use Rattle.bk_live.specs.declared.homes.Spot.{Spot}
use Rattle.bk_live.specs.declared.search.Start.{Start}
use Rattle.bk_live.specs.declared.uses.Use.{Use}
use Rattle.bk_live.specs.Counts.{count_at, steps_between}
use Rattle.bk_live.specs.Homes.{AreHomes, ArePlaces, IsBehind}
use Rattle.bk_live.specs.Live.{IsOrdered}
use Rattle.bk_live.specs.Search.{Found}
use Rattle.bk_live.specs.Uses.{AreUses}

pub record IsPrepared (f : FuncRecord) (os : List (List ℕ)) (h : ℕ → Option Spot) (p : ℕ → Option ℕ) (us : List Use) : Type 0 where
  pub given : IsOrdered f os
  pub homes : AreHomes os h
  pub places : ArePlaces f.blocks p
  pub uses : AreUses os h p f.blocks us

-- the start of a search from a use: the start of its block, at the use's distance from there
abbrev pub start_of : List (List ℕ) → Spot → Start
start_of counts s = record { place = s.block; distance = steps_between 0 (unwrap_or (count_at counts s.block s.entry) 0) }

-- where the value is not defined before in the block
abbrev pub IsStartOf : (ℕ → Option Spot) → List (List ℕ) → List Use → ℕ → Start → Type 0
IsStartOf h counts us n s = (u : Use) × Contains us u × (u.value ≡ n) × ¬ IsBehind h n u.spot × (start_of counts u.spot ≡ s)

-- the block in which the value stands, or `none`
abbrev pub home_or : Option Spot → ℕ → ℕ
home_or None none = none
home_or (Some s) none = s.block

-- edges lead back from the starts to the block, and not into the block in which n stands
abbrev pub FoundFor : (ℕ → Option Spot) → List (List ℕ) → List ℕ → List Start → ℕ → ℕ → ℕ → Type 0
FoundFor h es ws starts n = Found es ws (home_or (h n) (length es)) starts

-- the starts in a list, if there is one
abbrev pub listed_at : {Z : Type 0} → Option (Vec Start Z) → List Start
listed_at None = []
listed_at (Some v) = v.items

-- the start that a use gives
abbrev pub Gives : List (List ℕ) → (ℕ → Spot → Type 0) → ℕ → Use → ℕ × Start → Type 0
Gives counts B k u e = (u.value ≡ e.0) × (start_of counts u.spot ≡ e.1) × ¬ B u.value u.spot
