-- Rules by the op at the root of their left tree.
use Rattle.std.specs.Prelude.{◌≡◌, ℕ, ◌+◌, ◌*◌, ◌/◌, ◌%◌, ◌<◌, true, List, length, Option, Some, None, Vec, slice_get}
use Rattle.std.specs.declared.alloc.Global.{Global}
use Rattle.bk_ops.specs.declared.table.Op.{Op}
use Rattle.bk_rule.specs.declared.trees.Pattern.{Pattern}
use Rattle.bk_rule.specs.declared.trees.Pattern as pattern
use Rattle.bk_rule.specs.declared.trees.Rule.{Rule}
use Rattle.bk_rewrite.specs.declared.roots.Group.{Group}
use Rattle.bk_rewrite.specs.declared.roots.Index.{Index}

-- the op at the root of a tree
abbrev pub root_op : Pattern → Option Op
root_op pattern.Any = None
root_op (pattern.Var i) = None
root_op (pattern.Node' name o ty int x shape ps) = Some o

-- these are the places of the rules with the op at their root, rising
pub record AreRooted (o : Op) (rules : List Rule) (places : List ℕ) : Type 0 where
  pub rising : (i j k l : ℕ) → i < j → slice_get places i ≡ Some k → slice_get places j ≡ Some l → k < l
  pub sound : (i k : ℕ) → slice_get places i ≡ Some k → (r : Rule) × (slice_get rules k ≡ Some r) × (root_op r.left ≡ Some o)
  pub whole : (k : ℕ) (r : Rule) → slice_get rules k ≡ Some r → root_op r.left ≡ Some o → (i : ℕ) × (slice_get places i ≡ Some k)

-- the part of the index to which an op belongs
abbrev pub part_of : Op → ℕ
part_of o = (o.a / 8 + 3 * (o.b / 8)) % 16

-- the group at this place is that of the op
abbrev pub HasGroup : List Group → Op → ℕ → Type 0
HasGroup groups o i = (g : Group) × (slice_get groups i ≡ Some g) × (g.op ≡ o)

-- no group is that of the op
abbrev pub IsUngrouped : List Group → Op → Type 0
IsUngrouped groups o = (i : ℕ) → HasGroup groups o i → ⊥

-- each of the first n rules whose root op belongs to the part has a group
pub record Grouped (part : ℕ) (rules : List Rule) (n : ℕ) (groups : List Group) : Type 0 where
  pub each : (i : ℕ) (g : Group) → slice_get groups i ≡ Some g → AreRooted g.op rules g.places.items
  pub whole : (k : ℕ) (r : Rule) (o : Op) → k < n → slice_get rules k ≡ Some r → root_op r.left ≡ Some o → part_of o ≡ part → (i : ℕ) × HasGroup groups o i

-- a group of rules for each root op that belongs to a part
abbrev pub AreGroups : ℕ → List Rule → List Group → Type 0
AreGroups part rules groups = Grouped part rules (length rules) groups

-- each left tree has an op at its root
abbrev pub HaveRoots : List Rule → Type 0
HaveRoots rules = (k : ℕ) (r : Rule) → slice_get rules k ≡ Some r → (o : Op) × (root_op r.left ≡ Some o)

-- the index is that of these rules
pub record IsIndex (rules : List Rule) (index : Index) : Type 0 where
  pub parts : length index.parts.items ≡ 16
  pub each : (k : ℕ) (groups : Vec Group Global) → slice_get index.parts.items k ≡ Some groups → AreGroups k rules groups.items
  pub roots : index.has_roots ≡ true → HaveRoots rules
