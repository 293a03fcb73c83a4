-- The order in which the values of a block are done.
use Rattle.std.specs.Prelude.{◌≡◌, ℕ, ◌<◌, ◌==◌, if◌then◌else◌, List, [], ◌∷◌, ◌++◌, length, map, position, slice_get, Option, Some, None, option_and_then, ◌⊎◌}
use Rattle.std.specs.List.{All, Contains, range_with_len}
use Rattle.bk_func.specs.Records.{ValueRecord, BlockRecord, FuncRecord}
use Rattle.bk_func.specs.Numbers.{origin_of, state_of}
use Rattle.bk_func.specs.Effects.{is_check, is_load, has_effect, chain_from}
use Rattle.bk_func.specs.Meaning.{first_state}
use Rattle.bk_func.specs.Form.{IsFormed}
use Rattle.bk_func.specs.Form.Walks.{IsReached}
use Rattle.bk_func.specs.Form.States.{IsFirstState}
use Rattle.bk_func.specs.Form.Before.{IsTakenBy}
use Rattle.bk_func.specs.Form.Signatures.{Setting}

-- when a value is due: the level of its state of memory, its class there and its place in the block
pub record Due : Type 0 where
  pub level : ℕ
  pub class : ℕ
  pub place : ℕ

-- due later
pub data Later : Due → Due → Type 0 where
  by_level : (d e : Due) → e.level < d.level → Later d e
  by_class : (d e : Due) → d.level ≡ e.level → e.class < d.class → Later d e
  by_place : (d e : Due) → d.level ≡ e.level → d.class ≡ e.class → e.place < d.place → Later d e

-- the level of what may be done at any time
abbrev pub anytime : ℕ
anytime = 18446744073709551615

-- checks, then loads, then the next memory value
abbrev pub class_of : ValueRecord → Option ℕ
class_of v =
    if is_check (origin_of v.op.family) then Some 0 else (if is_load (origin_of v.op.family) then Some 1 else (if has_effect v then Some 2 else None))

abbrev pub level_in : List ℕ → Option ℕ → Option ℕ
level_in states None = None
level_in states (Some s) = position (λ n. n == s) states

abbrev pub due_by : Option ℕ → Option ℕ → ℕ → Option Due
due_by None level place = Some (record { level = anytime; class = 0; place = place })
due_by (Some class) None place = None
due_by (Some class) (Some level) place = Some (record { level = level; class = class; place = place })

-- when the value at a place of the block is due, where the block begins with the state s
abbrev pub due_of : FuncRecord → BlockRecord → ℕ → ℕ → ValueRecord → Option Due
due_of f b s place v = due_by (class_of v) (level_in (s ∷ map (λ u. u.id) (chain_from f b s)) (state_of f v)) place

-- the places of values that are left, filled into a list from its end: each time with the value that is due latest of those
-- that none of the others takes
pub data Filled (due : ℕ → Option Due) (takes : ℕ → ℕ → Type 0) : List ℕ → List ℕ → Type 0 where
  none : Filled due takes [] []
  put : (xs ys zs : List ℕ) (v : ℕ) (d : Due) → due v ≡ Some d → ((x : ℕ) → Contains (xs ++ v ∷ ys) x → ¬ takes x v)
      → ((y : ℕ) (e : Due) → Contains (xs ++ ys) y → due y ≡ Some e → ((x : ℕ) × Contains (xs ++ v ∷ ys) x × takes x y) ⊎ Later d e)
      → Filled due takes (xs ++ ys) zs → Filled due takes (xs ++ v ∷ ys) (zs ++ v ∷ [])

-- the same of the value that stands at the place
abbrev pub due_at : FuncRecord → BlockRecord → ℕ → ℕ → Option Due
due_at f b s k = option_and_then (due_of f b s k) (slice_get b.values k)

-- the value at one place takes that at the other, which stands in the block too, and is no phi
abbrev pub TakesAt : BlockRecord → ℕ → ℕ → Type 0
TakesAt b x y = (u v : ValueRecord) × (slice_get b.values x ≡ Some u) × (slice_get b.values y ≡ Some v) × IsTakenBy b v u

-- the order in which the values of a block are done, by their places; where all walks lead to the block with one state, that is
-- the state that it begins with, unless it has a first state of its own
pub record IsOrdered (f : FuncRecord) (b : BlockRecord) (zs : List ℕ) : Type 0 where
  pub short : length b.values < anytime
  pub within : All (λ k. k < length b.values) zs
  pub filled : (s : Setting) → IsFormed s f → IsReached f b → (m : ℕ) → ((n : ℕ) → IsFirstState f b n → n ≡ m)
      → Filled (due_at f b (first_state b m)) (TakesAt b) (range_with_len 0 (length b.values)) zs
