-- Steps that go through.
use Rattle.std.proofs.Common.{◌≡◌, [], length, refl, Bool, true, false, cond, Option, Some, None}
use Rattle.std.specs.Prelude.{Result, Ok, Err}
use Rattle.bk_func.specs.Records.{VarRecord}
use Rattle.bk_dump.specs.declared.read.errors.Fault.{Fault}
use Rattle.bk_dump.specs.declared.read.errors.Fault.TheVariants.{Syntax}
use Rattle.bk_dump.specs.Trees.{LabelTree, VarTree, OpenTree}
use Rattle.bk_dump.specs.Drafts.{State, unless, unless_then, padded, pairs}
use Rattle.bk_dump_laws.proofs.Running.{go_on}

pub unless_none : {A : Type 0} (o : Option Fault) (x y : A) → unless o x ≡ Ok y → o ≡ None
unless_none None x y h = refl
unless_none (Some f) x y h = absurd (cc)

pub then_none : {A : Type 0} (o : Option Fault) (r : Result A Fault) (y : A) → unless_then o r ≡ Ok y → o ≡ None
then_none None r y h = refl
then_none (Some f) r y h = absurd (cc)

pub guarded : (b : Bool) (r : Result State Fault) (t : State) → cond b r (Err Syntax) ≡ Ok t → r ≡ Ok t
guarded true r t h = h
guarded false r t h = absurd (cc)

pub went_on : (r : Result State Fault) (f : State → Result State Fault) (t : State) → go_on r f ≡ Ok t → (u : State) × (r ≡ Ok u) × (f u ≡ Ok t)
went_on (Ok u) f t h = (u, refl, h)
went_on (Err x) f t h = absurd (cc)

-- what a line declares or opens

abbrev pub new_var : State → VarTree → VarRecord
new_var s v = record { name = length s.names; size = v.size; bytes = padded v.size (pairs v.hex) }

abbrev pub fresh_block : LabelTree → OpenTree
fresh_block b = record { label = b; values = [] }
