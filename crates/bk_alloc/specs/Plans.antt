-- The tables of a function's blocks and words.
use Rattle.std.specs.Prelude.{◌≡◌, ℕ}
use Rattle.std.specs.BTreeSet.{contains}
use Rattle.std.specs.Ordering.{nat_cmp}
use Rattle.bk_alloc.specs.declared.plan.Plans.{Plans}
use Rattle.bk_alloc.specs.Placement.{is_word}
use Rattle.bk_alloc.specs.Places.{AreFirst}

-- the tables are those of the function
pub record ArePlans (p : Plans) : Type 0 where
  pub words : (n : ℕ) → contains nat_cmp p.words n ≡ is_word p.blocks.now n
  pub places : AreFirst (λ b. b.id) p.blocks.now p.places
