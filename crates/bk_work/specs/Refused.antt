-- Why a function is refused: the first step that it fails.
use Rattle.std.specs.Prelude.{◌≡◌, ℕ, ◌+◌, true, List, Some}
use Rattle.bk_ops.specs.declared.types.Target.{Target}
use Rattle.bk_ops.specs.declared.types.Target.TheVariants.{Arm, Riscv64}
use Rattle.bk_func.specs.Construct.{first_construct}
use Rattle.bk_func.specs.Limits.{most_values_made}
use Rattle.bk_func.specs.Records.{FuncRecord, PackageRecord}
use Rattle.bk_rule.specs.declared.trees.Rule.{Rule}
use Rattle.bk_rewrite.specs.Passes.{Changes, Outgrows}
use Rattle.bk_calls.specs.Budget.{is_grown}
use Rattle.bk_dec64.specs.Budget as halved
use Rattle.bk_work.specs.declared.refusals.Cause.{Cause}
use Rattle.bk_work.specs.declared.refusals.Cause.TheVariants.{Construct, Passes, Grown, Frame}
use Rattle.bk_work.specs.Framed.{IsTooDeep}
use Rattle.bk_work.specs.Lowered.{IsCleaned, IsCoded, IsDecomposed, IsFitted, IsInWords, IsLowered, IsSettled, pass_limit}
use Rattle.bk_work.specs.Rules.{RulesRecord}

-- a value past the limit would be added
abbrev pub grown : Cause
grown = Grown (most_values_made + 1)

-- the target has no code for the value, the first one of those that are left where what is dead is gone
pub record LacksCode (t : Target) (f : FuncRecord) (value : ℕ) : Type 0 where
  pub live : FuncRecord
  pub cleaned : IsCleaned f live
  pub first : first_construct live t ≡ Some value

-- each pass that a rewriting may make changes something, or one exceeds the count of values
pub data IsUnsettled (t : Target) (rules : List Rule) (f : FuncRecord) : Cause → Type 0 where
  passes : (last : FuncRecord) → Changes t rules (pass_limit f) f last → IsUnsettled t rules f (Passes (pass_limit f))
  values : Outgrows t rules (pass_limit f) f → IsUnsettled t rules f grown

-- there is no room for halves, or what is computed of them doesn't settle
pub data IsUnhalved (pkg : PackageRecord) (rules : List Rule) (f : FuncRecord) : Cause → Type 0 where
  no_room : halved.is_grown pkg f ≡ true → IsUnhalved pkg rules f grown
  unsettled : (apart : FuncRecord) (cause : Cause) → IsDecomposed pkg f apart → IsUnsettled Arm rules apart cause → IsUnhalved pkg rules f cause

-- a word of riscv64 always holds a value
abbrev pub IsUnfit : PackageRecord → Target → List Rule → FuncRecord → Cause → Type 0
IsUnfit pkg Arm rules f cause = IsUnhalved pkg rules f cause
IsUnfit pkg Riscv64 rules f cause = ⊥

-- the steps before calls go to words, each of which went well
pub record IsNarrowed (pkg : PackageRecord) (t : Target) (rules : RulesRecord) (f g : FuncRecord) : Type 0 where
  pub live : FuncRecord
  pub settled : FuncRecord
  pub coded : IsCoded t f live
  pub generic : IsSettled t rules.generic live settled
  pub fitted : IsFitted pkg t rules.halves settled g

-- in the order of the steps, each after those that went well
pub data IsRefused (pkg : PackageRecord) (t : Target) (rules : RulesRecord) (f : FuncRecord) : Cause → Type 0 where
  construct : (value : ℕ) → LacksCode t f value → IsRefused pkg t rules f (Construct value)
  generic : (live : FuncRecord) (cause : Cause) → IsCoded t f live → IsUnsettled t rules.generic live cause → IsRefused pkg t rules f cause
  halves : (live settled : FuncRecord) (cause : Cause) → IsCoded t f live → IsSettled t rules.generic live settled → IsUnfit pkg t rules.halves settled cause
      → IsRefused pkg t rules f cause
  words : (fit : FuncRecord) → IsNarrowed pkg t rules f fit → is_grown t fit ≡ true → IsRefused pkg t rules f grown
  machine : (fit words : FuncRecord) (cause : Cause) → IsNarrowed pkg t rules f fit → IsInWords pkg t fit words → IsUnsettled t rules.machine words cause
      → IsRefused pkg t rules f cause
  frame : (lowered : FuncRecord) (bytes : ℕ) → IsLowered pkg t rules f lowered → IsTooDeep pkg t lowered bytes → IsRefused pkg t rules f (Frame bytes)

-- a refusal before the function has a frame
abbrev pub IsUnframed : Cause → Type 0
IsUnframed cause = (bytes : ℕ) → cause ≡ Frame bytes → ⊥
