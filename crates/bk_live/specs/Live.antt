-- Which values are live at the places of a function, and how far their next uses are.
--
-- The values of each block stand in an order, a list of their numbers. A place is given by the block's place i in the
-- function and by how many entries k of its order come before.
use Rattle.std.specs.Prelude.{◌≡◌, ◌↔◌, ℕ, ◌+◌, ◌<◌, ◌≤◌, ◌==◌, ◌&&◌, Bool, true, false, if◌then◌else◌, List, [], length, count_by, Option, None, Some, slice_index_or, ◌⊎◌}
use Rattle.std.specs.List.{AllPairs, Contains, list_any, slice_get}
use Rattle.bk_ops.specs.declared.family.Family.{Family}
use Rattle.bk_ops.specs.declared.family.Family.TheVariants.{Phi}
use Rattle.bk_func.specs.Records.{ValueRecord, BlockRecord, FuncRecord}
use Rattle.bk_func.specs.Form.{IsFormed}
use Rattle.bk_func.specs.Form.Signatures.{Setting}
use Rattle.bk_func.specs.Form.Text.{HasValue, IsPhi}

abbrev pub order_at : List (List ℕ) → ℕ → List ℕ
order_at os i = slice_index_or os i []

-- the value x stands right behind the place
abbrev pub IsEntry : List (List ℕ) → ℕ → ℕ → ℕ → Type 0
IsEntry os i k x = slice_get (order_at os i) k ≡ Some x

-- the place is the end of its block
abbrev pub IsEnd : List (List ℕ) → ℕ → ℕ → Type 0
IsEnd os i k = k ≡ length (order_at os i)

-- the value x, which is no phi, takes n
abbrev pub Takes : FuncRecord → ℕ → ℕ → Type 0
Takes f x n = (b : BlockRecord) × (v : ValueRecord) × HasValue f b v × (v.id ≡ x) × ¬ IsPhi v × Contains v.args n

-- a phi takes n where the block is left
abbrev pub IsSent : FuncRecord → BlockRecord → ℕ → Type 0
IsSent f b n =
    (s : BlockRecord) × (v : ValueRecord) × (j : ℕ) × HasValue f s v × IsPhi v × (slice_get s.preds j ≡ Some b.id) × (slice_get v.args j ≡ Some n)

-- the block's control is n, or a phi takes n where it is left
abbrev pub IsUsedBehind : FuncRecord → ℕ → ℕ → Type 0
IsUsedBehind f i n = (b : BlockRecord) × (slice_get f.blocks i ≡ Some b) × ((b.control ≡ Some n) ⊎ IsSent f b n)

-- n is used at the place: by the value that stands there, or at the block's end
abbrev pub IsUsedAt : FuncRecord → List (List ℕ) → ℕ → ℕ → ℕ → Type 0
IsUsedAt f os n i k = ((x : ℕ) × IsEntry os i k x × Takes f x n) ⊎ (IsEnd os i k × IsUsedBehind f i n)

-- the block at j is a successor of that at i
abbrev pub HasSuccessor : FuncRecord → ℕ → ℕ → Type 0
HasSuccessor f i j = (a b : BlockRecord) × (slice_get f.blocks i ≡ Some a) × (slice_get f.blocks j ≡ Some b) × Contains a.succs b.id

-- how many scheduled places a value is: phis do not count
abbrev pub is_phi : Family → Bool
is_phi Phi = true
is_phi _ = false

unfoldable pub names_phi : FuncRecord → ℕ → Bool
names_phi f x = list_any (λ b. list_any (λ v. is_phi v.op.family && (v.id == x)) b.values) f.blocks

abbrev pub cost : FuncRecord → ℕ → ℕ
cost f x = if names_phi f x then 0 else 1

-- a walk of m scheduled places leads from the place to a use of n, without passing the definition of n. The place of the use
-- counts, and so does the end of each block that is left
pub data Leads (f : FuncRecord) (os : List (List ℕ)) (n : ℕ) : ℕ → ℕ → ℕ → Type 0 where
  here : (i k : ℕ) → IsUsedAt f os n i k → Leads f os n i k 1
  pass : (i k x m : ℕ) → IsEntry os i k x → ¬ (x ≡ n) → Leads f os n i (k + 1) m → Leads f os n i k (cost f x + m)
  leave : (i j k m : ℕ) → IsEnd os i k → HasSuccessor f i j → Leads f os n j 0 m → Leads f os n i k (1 + m)

-- n is live at the place
abbrev pub IsLive : FuncRecord → List (List ℕ) → ℕ → ℕ → ℕ → Type 0
IsLive f os n i k = (m : ℕ) × Leads f os n i k m

-- its next use is m places on
pub record IsNextUse (f : FuncRecord) (os : List (List ℕ)) (n i k m : ℕ) : Type 0 where
  pub leads : Leads f os n i k m
  pub least : (l : ℕ) → Leads f os n i k l → m ≤ l

-- what is said of a next use: where there is none, n is not live
abbrev pub NextUseIs : FuncRecord → List (List ℕ) → ℕ → ℕ → ℕ → Option ℕ → Type 0
NextUseIs f os n i k None = ¬ IsLive f os n i k
NextUseIs f os n i k (Some m) = IsNextUse f os n i k m

-- the function is in form or in word form of some package, and each block has an order, which lists its values once
pub record IsOrdered (f : FuncRecord) (os : List (List ℕ)) : Type 0 where
  pub setting : Setting
  pub formed : IsFormed setting f
  pub size : length os ≡ length f.blocks
  pub each : (i : ℕ) (b : BlockRecord) → slice_get f.blocks i ≡ Some b → (x : ℕ) → count_by (λ y. y == x) (order_at os i) ≡ count_by (λ v. v.id == x) b.values

-- the rows list, for each block, what is live at its start, in rising order
pub record AreLive (f : FuncRecord) (os rows : List (List ℕ)) : Type 0 where
  pub size : length rows ≡ length f.blocks
  pub rising : (i : ℕ) → AllPairs (λ m n. m < n) (slice_index_or rows i [])
  pub each : (i n : ℕ) → i < length f.blocks → Contains (slice_index_or rows i []) n ↔ IsLive f os n i 0

-- the place behind k entries of the order of the block with the number n, which stands at i
abbrev pub IsPlaced : FuncRecord → List (List ℕ) → ℕ → ℕ → ℕ → Type 0
IsPlaced f os i n k = (b : BlockRecord) × (slice_get f.blocks i ≡ Some b) × (b.id ≡ n) × k ≤ length (order_at os i)

-- the next uses at all places: those of the value v behind k entries of the order of the block with the number n; and none
-- where no such place is
pub record AllNextUses (f : FuncRecord) (os : List (List ℕ)) (next : ℕ → ℕ → ℕ → Option ℕ) : Type 0 where
  pub each : (i n k v : ℕ) → IsPlaced f os i n k → NextUseIs f os v i k (next n k v)
  pub outside : (n k v : ℕ) → ((i : ℕ) → ¬ IsPlaced f os i n k) → next n k v ≡ None
