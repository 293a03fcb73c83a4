-- The values of a function by their places in text order.
use Rattle.std.specs.Prelude.{ℕ, ◌+◌, Bool, false, List, [], ◌∷◌, ◌++◌, map, Option, None, Some, IfSome, slice_index_or}
use Rattle.std.specs.List.{All, slice_get}
use Rattle.std.specs.Option.{option_and_then, option_map}
use Rattle.bk_func.specs.Records.{ValueRecord, BlockRecord, FuncRecord, SigRecord, PackageRecord}
use Rattle.bk_func.specs.Form.Text.{HasBlock, HasValue}
use Rattle.bk_func.specs.Form.Parts.{IsValueNumber}
use Rattle.bk_func.specs.Form.Signatures.{sig_of}
use Rattle.bk_form.specs.Numbers.{value_ids, sole}

-- a value with the place of its block
pub record NodeRecord : Type 0 where
  pub home : ℕ
  pub value : ValueRecord

abbrev pub node_at : ℕ → ValueRecord → NodeRecord
node_at i v = record { home = i; value = v }

-- the values of the blocks, of which the first has this place
unfoldable pub nodes_from : ℕ → List BlockRecord → List NodeRecord
nodes_from i [] = []
nodes_from i (b ∷ bs) = map (node_at i) b.values ++ nodes_from (i + 1) bs

abbrev pub nodes_of : FuncRecord → List NodeRecord
nodes_of f = nodes_from 0 f.blocks

-- the value with this number
abbrev pub node_named : FuncRecord → ℕ → Option NodeRecord
node_named f n = option_and_then (slice_get (nodes_of f)) (sole (value_ids f) n)

unfoldable pub value_with : FuncRecord → ℕ → Option ValueRecord
value_with f n = option_map (λ m. m.value) (node_named f n)

-- the value that the first argument names
abbrev pub first_named : FuncRecord → ValueRecord → Option ValueRecord
first_named f v = option_and_then (value_with f) (slice_get v.args 0)

-- the signature of the call that it is
unfoldable pub callee_named : PackageRecord → FuncRecord → ValueRecord → Option SigRecord
callee_named p f v = option_and_then (λ c. sig_of p c.aux) (first_named f v)

-- the numbers of values, of their arguments and of controls name one value each
pub record AllNamed (f : FuncRecord) : Type 0 where
  pub own : (b : BlockRecord) (v : ValueRecord) → HasValue f b v → IsValueNumber f v.id
  pub args : (b : BlockRecord) (v : ValueRecord) → HasValue f b v → All (IsValueNumber f) v.args
  pub controls : (b : BlockRecord) → HasBlock f b → IfSome b.control (IsValueNumber f)

-- the value that the number stands for, by the places for which values stand
unfoldable pub root_with : FuncRecord → List (Option ℕ) → ℕ → Option ValueRecord
root_with f rs n =
    option_map (λ m. m.value) (option_and_then (slice_get (nodes_of f)) (option_and_then (λ p. slice_index_or rs p None) (sole (value_ids f) n)))

-- the mark of the value with the number, by places
abbrev pub mark_at : List Bool → Option ℕ → Bool
mark_at bs None = false
mark_at bs (Some p) = slice_index_or bs p false

abbrev pub mark_of : FuncRecord → List Bool → ℕ → Bool
mark_of f bs n = mark_at bs (sole (value_ids f) n)
