-- How a function in SSA form becomes one of the target's own ops on words.
use Rattle.std.specs.Prelude.{◌≡◌, ℕ, ◌+◌, false, List, None}
use Rattle.bk_ops.specs.declared.types.Target.{Target}
use Rattle.bk_ops.specs.declared.types.Target.TheVariants.{Arm, Riscv64}
use Rattle.bk_func.specs.Construct.{first_construct}
use Rattle.bk_func.specs.Records.{FuncRecord, PackageRecord}
use Rattle.bk_rule.specs.declared.trees.Rule.{Rule}
pub use Rattle.bk_graph.specs.Cleaned.{IsCleaned}
use Rattle.bk_rewrite.specs.Passes.{Settles}
use Rattle.bk_calls.specs.Areas.{areas_of}
use Rattle.bk_calls.specs.Budget.{is_grown}
use Rattle.bk_dec64.specs.Budget as halved
use Rattle.bk_dec64.specs.Decomposed.{decomposed}
use Rattle.bk_work.specs.Rules.{RulesRecord}

-- what is dead is gone, and the target has code for each value that is left
pub record IsCoded (t : Target) (f g : FuncRecord) : Type 0 where
  pub cleaned : IsCleaned f g
  pub construct : first_construct g t ≡ None

-- the most passes of a rewriting
abbrev pub pass_limit : FuncRecord → ℕ
pass_limit f = 64 + f.given

-- rewritten until no rule matches, and what this made dead is gone
pub record IsSettled (t : Target) (rules : List Rule) (f g : FuncRecord) : Type 0 where
  pub last : FuncRecord
  pub settled : Settles t rules (pass_limit f) f last
  pub cleaned : IsCleaned last g

-- values of 64 bits that come from outside or go there are in halves, for which there was room
pub record IsDecomposed (pkg : PackageRecord) (f g : FuncRecord) : Type 0 where
  pub room : halved.is_grown pkg f ≡ false
  pub apart : g ≡ decomposed pkg f

-- and what is computed of them is computed of halves
pub record IsInHalves (pkg : PackageRecord) (rules : List Rule) (f g : FuncRecord) : Type 0 where
  pub apart : FuncRecord
  pub decomposed : IsDecomposed pkg f apart
  pub settled : IsSettled Arm rules apart g

-- a word of the target holds each value: one of riscv64 always does
abbrev pub IsFitted : PackageRecord → Target → List Rule → FuncRecord → FuncRecord → Type 0
IsFitted pkg Arm rules f g = IsInHalves pkg rules f g
IsFitted pkg Riscv64 rules f g = g ≡ f

-- arguments, calls and results are words, for which there was room
pub record IsInWords (pkg : PackageRecord) (t : Target) (f g : FuncRecord) : Type 0 where
  pub room : is_grown t f ≡ false
  pub words : g ≡ areas_of pkg t f

-- the steps in their order, and the function that each but the last gives
pub record IsLowered (pkg : PackageRecord) (t : Target) (rules : RulesRecord) (f g : FuncRecord) : Type 0 where
  pub live : FuncRecord
  pub settled : FuncRecord
  pub fit : FuncRecord
  pub words : FuncRecord
  pub coded : IsCoded t f live
  pub generic : IsSettled t rules.generic live settled
  pub fitted : IsFitted pkg t rules.halves settled fit
  pub in_words : IsInWords pkg t fit words
  pub machine : IsSettled t rules.machine words g
