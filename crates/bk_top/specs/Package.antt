-- What the reader of packages answers of a text.
use Rattle.std.specs.Prelude.{ℕ, List, Result}
use Rattle.bk_ops.specs.declared.types.Target.{Target}
use Rattle.bk_func.specs.Records.{PackageRecord}
use Rattle.bk_dump.specs.declared.read.errors.DumpError.{DumpError}
use Rattle.bk_dump.specs.Texts.{reading}
use Rattle.bk_dump.specs.Views as reader

-- the text reads as this package, or is refused so, want of memory aside
abbrev pub ReadsAs : List ℕ → Target → Result PackageRecord DumpError → Type 0
ReadsAs text target answer = reader.IsReading target answer (reading text)

-- the most bytes of a package's text
abbrev pub text_limit : ℕ
text_limit = 16777216
