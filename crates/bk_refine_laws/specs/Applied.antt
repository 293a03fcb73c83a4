-- One application of a rule, and what holds of the numbers of the two functions.
use Rattle.std.specs.Prelude.{ℕ, ◌≡◌, Bool, List, Some}
use Rattle.bk_func.specs.Records.{ValueRecord, FuncRecord}
use Rattle.bk_func.specs.Numbers.{Program, value_of, state_of, result, origin_of, callee_of}
use Rattle.bk_func.proofs.Unique.{Ranked}
use Rattle.bk_rule.specs.declared.trees.Bound.{Bound}
use Rattle.bk_rule.specs.declared.trees.Rule.{Rule}
use Rattle.bk_rule.specs.Match.{IsMatch}
use Rattle.bk_rewrite.specs.Places.{HasNumbers, value_at}
use Rattle.bk_rewrite.specs.Making.{source, applied}

-- the rule matches at the value v, place k of block b, and g is what its application there makes of f
pub record Application (p : Program) (r : Rule) (f g : FuncRecord) (b k : ℕ) (v : ValueRecord) (bs : List Bound) (cs : List Bool) : Type 0 where
  pub matches : IsMatch p.target f r bs v.id cs
  pub stands : value_at f b k ≡ Some v
  pub numbers : HasNumbers f
  pub gives : g ≡ applied (source f bs p.target) r.right b k v

-- the value u of f and the value w of g name one state of memory, and results are those of calls of one function
pub record NameAlike (f g : FuncRecord) (u w : ValueRecord) : Type 0 where
  pub state : state_of f u ≡ state_of g w
  pub callee : origin_of u.op.family ≡ result → callee_of f u ≡ callee_of g w

-- each value of f does so in both functions
abbrev pub SameNames : FuncRecord → FuncRecord → Type 0
SameNames f g = (id : ℕ) (v : ValueRecord) → value_of f id ≡ Some v → NameAlike f g v v

-- the live values of a function: each is there, and ranks above what its number follows from
pub record Lives (f : FuncRecord) (live : ℕ → Type 0) (rank : ℕ → ℕ) : Type 0 where
  pub ranked : Ranked f live rank
  pub there : (x : ℕ) → live x → (u : ValueRecord) × (value_of f x ≡ Some u)

-- the number names a value
abbrev pub IsThere : FuncRecord → ℕ → Type 0
IsThere f x = (u : ValueRecord) × (value_of f x ≡ Some u)
