-- What an answer of the check says of a function.
use Rattle.std.specs.Prelude.{ℕ, ◌<◌}
use Rattle.bk_ops.specs.declared.types.Target.{Target}
use Rattle.bk_func.specs.declared.form.FormKind.{FormKind}
use Rattle.bk_func.specs.Records.{FuncRecord, PackageRecord}
use Rattle.bk_func.specs.Form.{Keeps, IsFirstFault, IsFault, rank}
use Rattle.bk_func.specs.Form.Signatures.{Setting}
use Rattle.bk_form.specs.declared.FormError.{FormError}
use Rattle.bk_form.specs.declared.FormError.TheVariants.{FormFault, Memory}

-- the function has what the first n kinds ask
pub record KeepsBefore (s : Setting) (f : FuncRecord) (n : ℕ) : Type 0 where
  pub kinds : (k : FormKind) → rank k < n → Keeps s f k

-- why a function with blocks is refused
abbrev pub IsCause : Setting → FuncRecord → FormError → Type 0
IsCause s f (FormFault k place) = IsFirstFault s f k place
IsCause s f Memory = Unit {0}

-- and why any function is
abbrev pub IsRefusal : PackageRecord → FuncRecord → Target → FormError → Type 0
IsRefusal p f t (FormFault k place) = IsFault p f t k place
IsRefusal p f t Memory = Unit {0}
