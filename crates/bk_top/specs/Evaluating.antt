-- What `eval` tells: how a call of a function of a package ends.
use Rattle.std.specs.Prelude.{◌≡◌, ℕ, ◌+◌, ◌-◌, ◌%◌, List, [], ◌∷◌, ◌++◌, length, take, replicate, slice_get, Some, None, Ok}
use Rattle.bk_ops.specs.declared.types.Target.{Target}
use Rattle.bk_func.specs.Records.{SigRecord, FuncRecord, VarRecord, PackageRecord}
use Rattle.bk_func.specs.Meaning as mean
use Rattle.bk_mean.specs.Eval.{function_named, program}
use Rattle.bk_top.specs.Commands.{CallRecord}
use Rattle.bk_top.specs.Arguments.{own_stack, Gives, DoNotFit}
use Rattle.bk_top.specs.Package.{ReadsAs}
use Rattle.bk_work.specs.Package.{AreFrames}
use Rattle.bk_top.specs.Outcomes.{OutcomeRecord, returned, trapped, going, wild, outcome_line}

-- the outcome of a run, as it is told
abbrev pub told_outcome : mean.Outcome → OutcomeRecord
told_outcome (mean.returned numbers) = returned numbers
told_outcome (mean.trapped number) = trapped number
told_outcome (mean.wild address) = wild address
told_outcome mean.going = going

-- a length up to the next multiple of 8
abbrev pub rounded : ℕ → ℕ
rounded n = n + (8 - n % 8) % 8

-- bytes, cut or filled up with zeros to a length
abbrev pub filled : ℕ → List ℕ → List ℕ
filled n bytes = take n bytes ++ replicate (n - length bytes) 0

-- the data window that a package begins with: its variables one behind the other, each at a multiple of 8
unfoldable pub window_of : List VarRecord → List ℕ
window_of [] = []
window_of (v ∷ vs) = filled (rounded v.size) v.bytes ++ window_of vs

-- how a call of the function at a place ends by the meaning of SSA: on the package's own data, with these frames
abbrev pub ending : PackageRecord → Target → List ℕ → ℕ → List ℕ → ℕ → mean.Outcome × List ℕ
ending p target frames place args bound = mean.meaning (program p target frames) place args (window_of p.vars) own_stack bound

-- an outcome and a data window, as they are told
abbrev pub told : mean.Outcome × List ℕ → OutcomeRecord × List ℕ
told end = (told_outcome end.0, end.1)

-- the line of an outcome, and the data window then, of a function of this signature
abbrev pub line_of : Target → SigRecord → OutcomeRecord × List ℕ → List ℕ
line_of target sig end = outcome_line target sig.results end.0 end.1

-- The line of the call of a function of the package that the text reads as.
pub record Evaluates (target : Target) (call : CallRecord) (text line : List ℕ) : Type 0 where
  pub pkg : PackageRecord
  pub reads : ReadsAs text target (Ok pkg)
  pub frames : List ℕ
  pub framed : AreFrames pkg target frames
  pub place : ℕ
  pub func : FuncRecord
  pub named : function_named pkg call.name ≡ Some place
  pub found : slice_get pkg.funcs place ≡ Some func
  pub args : List ℕ
  pub given : Gives target func.sig.args call.args args
  pub tells : line ≡ line_of target func.sig (told (ending pkg target frames place args call.bound))

-- no function of the package that the text reads as has the name, and none is refused
abbrev pub LacksNamed : Target → CallRecord → List ℕ → Type 0
LacksNamed target call text =
    (p : PackageRecord) × ReadsAs text target (Ok p) × ((frames : List ℕ) × AreFrames p target frames) × (function_named p call.name ≡ None)

-- the words give no numbers for the arguments of the package's function, and none is refused
abbrev pub MisfitsNamed : Target → CallRecord → List ℕ → Type 0
MisfitsNamed target call text =
    (p : PackageRecord) × ReadsAs text target (Ok p) × ((frames : List ℕ) × AreFrames p target frames) × (place : ℕ) × (f : FuncRecord) × (function_named p call.name ≡ Some place) × (slice_get p.funcs place ≡ Some f) × DoNotFit target f.sig.args call.args
