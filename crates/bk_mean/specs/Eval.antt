-- Which function is run, and whether the numbers fit it.
use Rattle.std.specs.Prelude.{◌≡◌, ℕ, ◌<◌, nat_lt, ◌⊎◌, if◌then◌else◌, Bool, true, false, List, Option, Some, None, position, slice_get, bytes_eq}
use Rattle.std.specs.List.{All}
use Rattle.bk_ops.specs.declared.types.Target.{Target}
use Rattle.bk_ops.specs.declared.types.Ty.{Ty}
use Rattle.bk_func.specs.Records.{FuncRecord, PackageRecord}
use Rattle.bk_func.specs.Arguments.{fit}
use Rattle.bk_func.specs.Numbers.{Program}
use Rattle.bk_func.specs.Words.{fitted}
use Rattle.bk_func.specs.Form.{IsFormed, IsInForm}
use Rattle.bk_func.specs.Form.Signatures.{Setting, whole}
use Rattle.bk_func.specs.Meaning.{Outcome, returned, trapped, wild, going}

abbrev pub is_name : Option (List ℕ) → List ℕ → Bool
is_name None name = false
is_name (Some known) name = bytes_eq known name

-- the place of the first function with a name
abbrev pub function_named : PackageRecord → List ℕ → Option ℕ
function_named p name = position (λ f. is_name (slice_get p.names f.name) name) p.funcs

abbrev pub fit_in : Target → Option FuncRecord → List ℕ → Bool
fit_in t None ns = true
fit_in t (Some f) ns = fit t f.sig.args ns

-- the numbers fit the function at the place, if there is one
abbrev pub fit_at : PackageRecord → Target → Option ℕ → List ℕ → Bool
fit_at p t None ns = true
fit_at p t (Some i) ns = fit_in t (slice_get p.funcs i) ns

-- what is run: each argument and each result has a place
abbrev pub program : PackageRecord → Target → List ℕ → Program
program p t frames = record { pkg = p; target = t; places = whole; frames = frames }

-- no block is entered: the bound is spent, or the frame exceeds the stack; and how the run ends then
abbrev pub EntersNone : ℕ → ℕ → ℕ → Type 0
EntersNone bound stack frame = (bound ≡ 0) ⊎ (stack < frame)

abbrev pub end_of_none : ℕ → ℕ → Outcome
end_of_none stack frame = if nat_lt stack frame then trapped 5 else going

-- each result is cut to its type
abbrev pub fitted_outcome : Target → List Ty → Outcome → Outcome
fitted_outcome t tys (returned ns) = returned (fitted t tys ns)
fitted_outcome t tys (trapped n) = trapped n
fitted_outcome t tys (wild a) = wild a
fitted_outcome t tys going = going

-- each function of the package is in form, in one of the settings of form
abbrev pub AreFormed : PackageRecord → Type 0
AreFormed p = All (λ f. (s : Setting) × IsFormed s f) p.funcs

-- each is in form as it is read
abbrev pub AreInForm : PackageRecord → Target → Type 0
AreInForm p t = All (λ f. IsInForm p f t) p.funcs
