-- What is known of the branches' sizes between two rounds.
use Rattle.std.specs.Prelude.{◌≡◌, ℕ, ◌+◌, ◌-◌, ◌^◌, ◌<◌, ◌≤◌, Bool, true, if◌then◌else◌, List, length, take, slice_index}
use Rattle.std.specs.List.{sum, sum_by}
use Rattle.bk_fixup.specs.declared.sizes.Branch.{Branch}
use Rattle.bk_fixup.specs.Sizes.{branch_at, Rise, reaches, reaches_at, AreSizes, AreAtMost, AllReach}

-- the first e branches, and no others, lie before the place
pub record IsEnd (bs : List Branch) (p e : ℕ) : Type 0 where
  pub within : e ≤ length bs
  pub before : (k : ℕ) → k < e → (branch_at bs k).at < p
  pub behind : (k : ℕ) → e ≤ k → k < length bs → p ≤ (branch_at bs k).at

-- for each branch, how many lie before its target
pub record AreEnds (bs : List Branch) (es : List ℕ) : Type 0 where
  pub long : length es ≡ length bs
  pub each : (k : ℕ) → k < length bs → IsEnd bs (branch_at bs k).target (slice_index es k)

-- the words by which the first e branches are longer than one word each
abbrev pub gain_before : List ℕ → ℕ → ℕ
gain_before ss e = sum_by (λ s. s - 1) (take e ss)

pub record AreGains (ss gs : List ℕ) : Type 0 where
  pub long : length gs ≡ length ss + 1
  pub each : (e : ℕ) → e ≤ length ss → slice_index gs e ≡ gain_before ss e

-- how many words a branch lacks in a round: one where it does not reach
abbrev pub lack : Bool → ℕ → ℕ → ℕ → ℕ
lack cond s from to = if reaches cond s from to then 0 else 1

abbrev pub lack_at : List Branch → List ℕ → ℕ → ℕ
lack_at bs ss k = if reaches_at bs ss k then 0 else 1

abbrev pub next_size : List Branch → List ℕ → ℕ → ℕ
next_size bs ss k = slice_index ss k + lack_at bs ss k

-- the sizes after a round
pub record AreNext (bs : List Branch) (ss ns : List ℕ) : Type 0 where
  pub long : length ns ≡ length ss
  pub each : (k : ℕ) → k < length bs → slice_index ns k ≡ next_size bs ss k

-- one word for each branch
pub record AreOnes (bs : List Branch) (ss : List ℕ) : Type 0 where
  pub long : length ss ≡ length bs
  pub each : (k : ℕ) → k < length bs → slice_index ss k ≡ 1

-- sizes that no choice in which every branch reaches goes below
pub record AreBelow (bs : List Branch) (ss : List ℕ) : Type 0 where
  pub sizes : AreSizes bs ss
  pub below : (cs : List ℕ) → AreSizes bs cs → AllReach bs cs → AreAtMost bs ss cs

-- what a round knows: how many branches lie before each target, and by how much the branches are longer
pub record AreKnown (bs : List Branch) (es gs ss : List ℕ) : Type 0 where
  pub rise : Rise bs
  pub few : length bs ≤ 2 ^ 32
  pub ends : AreEnds bs es
  pub sizes : AreSizes bs ss
  pub gains : AreGains ss gs

-- the sizes in a round that has come to a place, and made so many branches longer
pub record IsPart (bs : List Branch) (ss ns : List ℕ) (place count : ℕ) : Type 0 where
  pub few : count ≤ place
  pub done : (k : ℕ) → k < place → slice_index ns k ≡ next_size bs ss k
  pub left : (k : ℕ) → place ≤ k → slice_index ns k ≡ slice_index ss k
  pub summed : sum ns ≡ sum ss + count
  pub same : count ≡ 0 → ns ≡ ss
  pub settled : count ≡ 0 → (k : ℕ) → k < place → reaches_at bs ss k ≡ true
