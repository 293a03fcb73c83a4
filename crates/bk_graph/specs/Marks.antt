-- What is marked as needed, and what is looked at for it.
use Rattle.std.specs.Prelude.{◌≡◌, ℕ, ◌<◌, Bool, true, false, List, length, None, Some, slice_get, slice_index_or}
use Rattle.bk_graph.specs.Cleaned.{takes, IsNeeded}
use Rattle.bk_graph.specs.Facts.{Facts}
use Rattle.bk_graph.specs.Kinds.{stays}
use Rattle.bk_graph.specs.Nodes.{NodeRecord}
use Rattle.bk_graph.specs.Tables.{Tables, args_of, control_of}

abbrev pub marked : List Bool → ℕ → Bool
marked marks p = slice_index_or marks p false

-- there is a mark for each value, and what is marked is needed
pub record AreMarked (t : Tables) (F : Facts) (marks : List Bool) : Type 0 where
  pub size : length marks ≡ length t.nodes
  pub needs : (p : ℕ) → marked marks p ≡ true → IsNeeded t F p

-- the control is marked that a reached block keeps
abbrev pub IsControlDone : Tables → Facts → List Bool → ℕ → Type 0
IsControlDone t F marks b =
    (p : ℕ) → F.reached b ≡ true → F.taken b ≡ None → control_of t b ≡ Some p → F.root p < length t.nodes → marked marks (F.root p) ≡ true

-- a nil check or a memory value of a reached block is marked
abbrev pub IsOwnDone : Tables → Facts → List Bool → ℕ → Type 0
IsOwnDone t F marks p =
    (n : NodeRecord) → slice_get t.nodes p ≡ Some n → F.reached n.block ≡ true → stays n.value.op.family n.value.ty ≡ true → marked marks p ≡ true

-- what the value takes as this argument is marked
abbrev pub IsArgDone : Tables → Facts → List Bool → ℕ → ℕ → Type 0
IsArgDone t F marks p k =
    (q : ℕ) (n : NodeRecord) → slice_get t.nodes p ≡ Some n → slice_get (args_of t p) k ≡ Some q → takes t F n k ≡ true → F.root q < length t.nodes
    → marked marks (F.root q) ≡ true

-- what a marked value takes is marked
abbrev pub AreArgsDone : Tables → Facts → List Bool → ℕ → Type 0
AreArgsDone t F marks p = marked marks p ≡ true → (k : ℕ) → IsArgDone t F marks p k

pub record IsValueDone (t : Tables) (F : Facts) (marks : List Bool) (p : ℕ) : Type 0 where
  pub own : IsOwnDone t F marks p
  pub args : AreArgsDone t F marks p
