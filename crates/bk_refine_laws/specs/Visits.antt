-- What one visit makes of a block and of a function, and what is asked of the two.
use Rattle.std.specs.Prelude.{ℕ, ◌≡◌, ◌<◌, ◌≤◌, ◌⊎◌, ◌++◌, true, false, List, Some, is_some, slice_get, slice_set, slice_index}
use Rattle.bk_ops.specs.declared.types.Target.{Target}
use Rattle.bk_ops.specs.declared.types.Ty.{Ty}
use Rattle.bk_ops.specs.declared.family.Family.{Family}
use Rattle.bk_func.specs.Records.{ValueRecord, BlockRecord, FuncRecord}
use Rattle.bk_func.specs.Edits.{block_of}
use Rattle.bk_func.specs.Numbers.{Program, result, same, computed, origin_of, state_of, room, value_of}
use Rattle.bk_func.specs.Effects.{is_phi, is_check, is_load, effect_of, needs}
use Rattle.bk_func.specs.Meaning.{is_first_state, is_make_result}
use Rattle.bk_func.proofs.Faults.{In}
use Rattle.bk_func.proofs.Needs.{BlockRanked}
use Rattle.bk_rule.specs.declared.trees.Bound.{Bound}
use Rattle.bk_rule.specs.declared.trees.Rule.{Rule}
use Rattle.bk_rewrite.specs.Places.{HasNumbers, value_at}
use Rattle.bk_rewrite.specs.Making.{source, inner, root_made, next_number}
use Rattle.bk_rewrite.specs.Passes.{copied_in, looked_through, with_looked_through}
use Rattle.bk_refine_laws.specs.Applied.{NameAlike}
use Rattle.bk_refine_laws.specs.Strict.{IsStrict}

-- the list after the edit
abbrev pub after : List ValueRecord → List ValueRecord → ℕ → ValueRecord → List ValueRecord
after xs made k root = slice_set (xs ++ made) k root

pub record IsPlain (o : Family) (ty : Ty) : Type 0 where
  pub check : is_check (origin_of o) ≡ false
  pub load : is_load (origin_of o) ≡ false
  pub effect : is_some (effect_of o ty) ≡ false
  pub phi : is_phi (origin_of o) ≡ false
  pub first : is_first_state ty o ≡ false
  pub result : is_make_result o ≡ false

-- v at the place k of block b is replaced by root, and `made` comes last
pub record Edit (b : BlockRecord) (k : ℕ) (v root : ValueRecord) (made : List ValueRecord) : Type 0 where
  pub stands : slice_get b.values k ≡ Some v
  pub same : root.id ≡ v.id
  pub old : IsPlain v.op.family v.ty
  pub new : IsPlain root.op.family root.ty
  pub more : (w : ValueRecord) → In w made → IsPlain w.op.family w.ty

abbrev pub edited : BlockRecord → ℕ → ValueRecord → List ValueRecord → BlockRecord
edited b k root made = record b { values = after b.values made k root }

-- What the values that a rule makes take: numbers of the left tree, which the old value needs where they stand in its block, and
-- numbers of other values made. Numbers below the limit are old.
pub record TakesLess (f : FuncRecord) (b : BlockRecord) (v root : ValueRecord) (made : List ValueRecord) (limit : ℕ) : Type 0 where
  pub here : In v b.values
  pub same : root.id ≡ v.id
  pub old : (u : ValueRecord) → In u b.values → (u.id < limit) × ((x : ℕ) → In x u.args → x < limit)
  pub new : (w : ValueRecord) → In w made → limit ≤ w.id
  pub takes : (w : ValueRecord) → (w ≡ root) ⊎ In w made → (x : ℕ) → In x w.args → (limit ≤ x) ⊎ ((u : ValueRecord) → In u b.values → u.id ≡ x → needs (room f) b (Some v) u.id ≡ true)

-- g is f with block x, at place b, changed: v, at its place k, is replaced by root, and `made` comes last
pub record Visited (f g : FuncRecord) (b k : ℕ) (x : BlockRecord) (v root : ValueRecord) (made : List ValueRecord) : Type 0 where
  pub there : slice_get f.blocks b ≡ Some x
  pub gives : g ≡ record f { blocks = slice_set f.blocks b (edited x k root made) }
  pub edit : Edit x k v root made

-- what the two functions say of a block's control
abbrev pub SameResult : FuncRecord → FuncRecord → BlockRecord → Type 0
SameResult f g b = (id : ℕ) → b.control ≡ Some id → (u w : ValueRecord) × (value_of f id ≡ Some u) × (value_of g id ≡ Some w) × ((u ≡ w) ⊎ ((is_make_result u.op.family ≡ false) × (is_make_result w.op.family ≡ false)))

-- a function in form, and what a rule makes of it, which is in form
pub record VisitForm (f g : FuncRecord) (x : BlockRecord) (k : ℕ) (v root : ValueRecord) (made : List ValueRecord) : Type 0 where
  pub limit : ℕ
  pub rank : ℕ → ℕ
  pub rank_after : ℕ → ℕ
  pub takes : TakesLess f x v root made limit
  pub states : (id : ℕ) (c : BlockRecord) → block_of f id ≡ Some c → (u : ValueRecord) → In u c.values → state_of f u ≡ state_of g u
  pub ranked : (id : ℕ) (c : BlockRecord) → block_of f id ≡ Some c → BlockRanked f c rank
  pub ranked_after : (id : ℕ) (c : BlockRecord) → block_of g id ≡ Some c → BlockRanked g c rank_after
  pub result : (id : ℕ) (c : BlockRecord) → block_of f id ≡ Some c → SameResult f g c

-- the value v, place k of block b, has each argument that is a copy replaced by what that copies
pub record Look (f g : FuncRecord) (b k : ℕ) (v : ValueRecord) : Type 0 where
  pub stands : value_at f b k ≡ Some v
  pub numbers : HasNumbers f
  pub gives : g ≡ with_looked_through f b k v
  pub apart : In v.id v.args → ⊥
  pub call : origin_of v.op.family ≡ result → copied_in f (slice_index v.args 0) ≡ slice_index v.args 0
  pub others : (id : ℕ) (u : ValueRecord) → value_of f id ≡ Some u → (id ≡ v.id → ⊥) → NameAlike f g u u
  pub own : NameAlike f g v (looked_through f v)

-- the root of a right tree: a copy of a value of its width, or a pure value
abbrev pub RootIs : Target → FuncRecord → (ℕ → ℕ) → ℕ → ValueRecord → Type 0
RootIs t g width id w = ((origin_of w.op.family ≡ same) × (width (slice_index w.args 0) ≡ width id)) ⊎ ((origin_of w.op.family ≡ computed) × IsStrict t g width id w)

-- what is asked of the new function: its pure values are strict, and so is what stands for the old value
pub record StrictAfter (p : Program) (r : Rule) (f g : FuncRecord) (v : ValueRecord) (bs : List Bound) (width : ℕ → ℕ) : Type 0 where
  pub made : (w : ValueRecord) → In w (inner (source f bs p.target) r.right) → (origin_of w.op.family ≡ computed) × IsStrict p.target g width w.id w
  pub root : RootIs p.target g width v.id (root_made (source f bs p.target) v.id v.ty r.right (next_number f))
