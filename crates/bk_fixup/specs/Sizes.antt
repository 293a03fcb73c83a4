-- The sizes of branches: the least choice in which every branch reaches its target.
use Rattle.std.specs.Prelude.{◌≡◌, ℕ, ◌+◌, ◌-◌, ◌<◌, ◌≤◌, Bool, true, false, ◌&&◌, nat_lt, nat_le, ◌==◌, if◌then◌else◌, List, [], ◌∷◌, length, slice_index, slice_index_or}
use Rattle.bk_fixup.specs.declared.sizes.Branch.{Branch}

-- the branch at a place of the list
abbrev pub branch_at : List Branch → ℕ → Branch
branch_at bs k = slice_index_or bs k (record { at = 0; target = 0; cond = false })

-- the places of branches rise
pub record Rise (bs : List Branch) : Type 0 where
  pub each : (j k : ℕ) → j < k → k < length bs → (branch_at bs j).at < (branch_at bs k).at

-- the places of branches rise, and lie in code of so many words
pub record AreBranches (bs : List Branch) (words : ℕ) : Type 0 where
  pub rise : Rise bs
  pub within : (k : ℕ) → k < length bs → (branch_at bs k).at < words

-- the words of a branch's longest form
abbrev pub longest : Branch → ℕ
longest b = if b.cond then 3 else 2

-- the words by which the branches before a place are longer than one word each
unfoldable pub gained : List Branch → List ℕ → ℕ → ℕ
gained [] ss p = 0
gained (b ∷ bs) [] p = 0
gained (b ∷ bs) (s ∷ ss) p = (if nat_lt b.at p then s - 1 else 0) + gained bs ss p

-- where a place lies once each branch has its size
abbrev pub moved : List Branch → List ℕ → ℕ → ℕ
moved bs ss p = p + gained bs ss p

-- an offset of at most so many words backwards, and fewer forwards, leads from one place to another
abbrev pub spans : ℕ → ℕ → ℕ → Bool
spans n from to = nat_le from (to + n) && nat_lt to (from + n)

-- a form of so many words reaches from one place to another: a branch spans 4,096 bytes, the jump behind the opposite branch
-- 1,048,576, and the longest form everything; a jump 1,048,576
abbrev pub reaches : Bool → ℕ → ℕ → ℕ → Bool
reaches true s from to = if s == 1 then spans 1024 from to else (if s == 2 then spans 262144 (from + 1) to else true)
reaches false s from to = if s == 1 then spans 262144 from to else true

-- the branch at a place of the list reaches its target with these sizes
abbrev pub reaches_at : List Branch → List ℕ → ℕ → Bool
reaches_at bs ss k =
    reaches (branch_at bs k).cond (slice_index ss k) (moved bs ss (branch_at bs k).at) (moved bs ss (branch_at bs k).target)

-- a form for each branch
pub record AreSizes (bs : List Branch) (ss : List ℕ) : Type 0 where
  pub long : length ss ≡ length bs
  pub some : (k : ℕ) → k < length bs → 1 ≤ slice_index ss k
  pub most : (k : ℕ) → k < length bs → slice_index ss k ≤ longest (branch_at bs k)

-- every branch reaches its target
pub record AllReach (bs : List Branch) (ss : List ℕ) : Type 0 where
  pub each : (k : ℕ) → k < length bs → reaches_at bs ss k ≡ true

-- no branch is longer than with these other sizes
pub record AreAtMost (bs : List Branch) (ss cs : List ℕ) : Type 0 where
  pub each : (k : ℕ) → k < length bs → slice_index ss k ≤ slice_index cs k

-- the least choice of forms in which every branch reaches
pub record AreLeastSizes (bs : List Branch) (ss : List ℕ) : Type 0 where
  pub sizes : AreSizes bs ss
  pub reach : AllReach bs ss
  pub least : (cs : List ℕ) → AreSizes bs cs → AllReach bs cs → AreAtMost bs ss cs
