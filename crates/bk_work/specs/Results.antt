-- What each round makes of all functions of a package.
use Rattle.std.specs.Prelude.{◌≡◌, ◌⊎◌, ℕ, List, length, slice_get, Option, Some}
use Rattle.bk_core.specs.Events.{CoreState, MeetsRule}
use Rattle.bk_func.specs.Records.{FuncRecord, PackageRecord}
use Rattle.bk_ops.specs.declared.types.Target.{Target}
use Rattle.bk_piece.specs.Pieces.{PieceRecord}
use Rattle.bk_work.specs.declared.items.Done.{Done}
use Rattle.bk_work.specs.declared.items.Done.TheVariants.{Refused}
use Rattle.bk_work.specs.declared.refusals.Cause.{Cause}
use Rattle.bk_work.specs.declared.refusals.Refusal.{Refusal}
use Rattle.bk_work.specs.Placed.{AreEnds, AreFirsts}
use Rattle.bk_work.specs.Rounds.{Entry, IsAt, IsFirst, IsSecond, announced_by}
use Rattle.bk_work.specs.Rules.{RulesRecord}
use Rattle.bk_work.specs.Run.{in_words}

-- the first round makes this of the function at a place
abbrev pub IsFirstAt : PackageRecord → Target → RulesRecord → ℕ → Done → Type 0
IsFirstAt pkg t rules f d = (g : FuncRecord) × (slice_get pkg.funcs f ≡ Some g) × IsFirst pkg t rules g d

-- each function is lowered, or there is a cause why it is not
pub record AreFirstDone (pkg : PackageRecord) (t : Target) (rules : RulesRecord) (es : List Entry) (causes : List (Option Cause)) : Type 0 where
  pub slots : List (Option Done)
  pub long : length slots ≡ length pkg.funcs
  pub firsts : AreFirsts slots es causes
  pub each : (f : ℕ) (d : Done) → slice_get slots f ≡ Some (Some d) → IsFirstAt pkg t rules f d

-- the first round refused the function at a place
abbrev pub IsRefusedAt : List (Option Cause) → ℕ → Done → Type 0
IsRefusedAt causes f d = (cause : Cause) × (slice_get causes f ≡ Some (Some cause)) × (d ≡ Refused cause)

-- the second round makes this of the function at a place
abbrev pub IsSecondAt : PackageRecord → Target → List ℕ → List Entry → List (List ℕ) → ℕ → Done → Type 0
IsSecondAt pkg t places es words f d = (e : Entry) × IsAt places es f e × IsSecond pkg t (in_words words) e d

-- the words of the closed cells for these keys
pub record AreClosed (announced : List (List ℕ)) (words : List (List ℕ)) : Type 0 where
  pub areas : length words ≡ 3
  pub parts : ℕ
  pub core : CoreState
  pub rule : MeetsRule announced parts core
  pub cells : core.areas ≡ words

-- each function has its code, or it is refused by a round; and the words of the cells of their keys
pub record AreSecondDone (pkg : PackageRecord) (t : Target) (places : List ℕ) (es : List Entry) (causes : List (Option Cause)) (ps : List PieceRecord) (rs : List Refusal) (words : List (List ℕ)) : Type 0 where
  pub slots : List (Option Done)
  pub long : length slots ≡ length causes
  pub ends : AreEnds 0 slots ps rs
  pub each : (f : ℕ) (d : Done) → slice_get slots f ≡ Some (Some d) → IsRefusedAt causes f d ⊎ IsSecondAt pkg t places es words f d
  pub closed : AreClosed (announced_by es) words
