-- What is seen of a value from the places of a function.
use Rattle.std.specs.Prelude.{◌≡◌, ◌↔◌, ℕ, ◌+◌, ◌<◌, ◌≤◌, nat_lt, List, length, Option, None, Some, if◌then◌else◌}
use Rattle.bk_func.specs.Records.{FuncRecord}
use Rattle.bk_live.specs.declared.table.Sight.{Sight}
use Rattle.bk_live.specs.declared.table.Sight.TheVariants as sees
use Rattle.bk_live.specs.Edges.{IsEdge}
use Rattle.bk_live.specs.Live.{IsEntry, IsUsedAt, HasSuccessor}

-- n does not stand among the entries from k to before l of the block at i
abbrev pub IsFree : List (List ℕ) → ℕ → ℕ → ℕ → ℕ → Type 0
IsFree os n i k l = (j : ℕ) → k ≤ j → j < l → ¬ IsEntry os i j n

-- n is not used there
abbrev pub IsUnused : FuncRecord → List (List ℕ) → ℕ → ℕ → ℕ → ℕ → Type 0
IsUnused f os n i k l = (j : ℕ) → k ≤ j → j < l → ¬ IsUsedAt f os n i j

-- what comes first from behind the entry k
abbrev pub Sees : FuncRecord → List (List ℕ) → ℕ → ℕ → ℕ → Sight → Type 0
Sees f os n i k (sees.Use l) = k ≤ l × IsUsedAt f os n i l × IsUnused f os n i k l × IsFree os n i k l
Sees f os n i k sees.Definition = (l : ℕ) × k ≤ l × IsEntry os i l n × IsUnused f os n i k (l + 1)
Sees f os n i k sees.End = ((l : ℕ) → IsUnused f os n i k l) × ((l : ℕ) → IsFree os n i k l)

-- edges between the places of blocks lead back, or on
pub record LeadBack (f : FuncRecord) (es : List (List ℕ)) : Type 0 where
  pub size : length es ≡ length f.blocks
  pub edge : (i j : ℕ) → IsEdge es j i ↔ HasSuccessor f i j

abbrev pub LeadOn : FuncRecord → List (List ℕ) → Type 0
LeadOn f es = (i j : ℕ) → IsEdge es i j ↔ HasSuccessor f i j

-- the least of the numbers, if there is one
abbrev pub IsLeast : (ℕ → Type 0) → Option ℕ → Type 0
IsLeast P None = (m : ℕ) → ¬ P m
IsLeast P (Some m) = P m × ((l : ℕ) → P l → m ≤ l)

-- the lesser of two numbers, where there are any
abbrev pub lesser : Option ℕ → Option ℕ → Option ℕ
lesser None o = o
lesser (Some a) None = Some a
lesser (Some a) (Some b) = if nat_lt b a then Some b else Some a
