-- What the numbers of a function name.
use Rattle.std.specs.Prelude.{◌≡◌, ℕ, ◌==◌, if◌then◌else◌, List, map, count_by, Option, Some, None}
use Rattle.std.specs.List.{flat_map, position_or_len}
use Rattle.std.specs.BTreeMap.{get}
use Rattle.std.specs.Ordering.{nat_cmp}
use Rattle.bk_func.specs.Records.{FuncRecord}
use Rattle.bk_form.specs.declared.numbers.Numbers.{Numbers}
use Rattle.bk_form.specs.declared.numbers.Bearer.{Bearer}
use Rattle.bk_form.specs.declared.numbers.Bearer.TheVariants.{One, Several}

-- what bears the number in the list
unfoldable pub bearer : List ℕ → ℕ → Option Bearer
bearer ns n =
    if count_by (λ x. x == n) ns == 0 then None else (if count_by (λ x. x == n) ns == 1 then Some (One (position_or_len (λ x. x == n) ns)) else Some Several)

-- and where the element at this place bears it too
abbrev pub one_more : Option Bearer → ℕ → Bearer
one_more None p = One p
one_more (Some b) p = Several

abbrev pub one_of : Option Bearer → Option ℕ
one_of None = None
one_of (Some (One p)) = Some p
one_of (Some Several) = None

-- the place of the one element n of the list
abbrev pub sole : List ℕ → ℕ → Option ℕ
sole ns n = one_of (bearer ns n)

-- the numbers of the blocks, and of the values of all blocks, in text order
abbrev pub block_ids : FuncRecord → List ℕ
block_ids f = map (λ b. b.id) f.blocks

abbrev pub value_ids : FuncRecord → List ℕ
value_ids f = flat_map (λ b. map (λ v. v.id) b.values) f.blocks

-- what a number of a block, or of a value, names
abbrev pub block_named : Numbers → ℕ → Option ℕ
block_named m id = one_of (get nat_cmp m.blocks id)

abbrev pub value_named : Numbers → ℕ → Option ℕ
value_named m id = one_of (get nat_cmp m.values id)

-- the numbers are the function's
pub record NumbersOf (f : FuncRecord) (m : Numbers) : Type 0 where
  pub block : (id : ℕ) → block_named m id ≡ sole (block_ids f) id
  pub value : (id : ℕ) → value_named m id ≡ sole (value_ids f) id
