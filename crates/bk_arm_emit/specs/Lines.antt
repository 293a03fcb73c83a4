-- Instructions as lines of code.
use Rattle.std.specs.Prelude.{ℕ, unwrap_or}
use Rattle.bk_arm_isa.specs.declared.Inst.{Inst}
use Rattle.bk_arm_isa.specs.Encoding.{encoding}
use Rattle.bk_emit.specs.declared.lines.Line.{Line}
use Rattle.bk_emit.specs.declared.lines.Line.TheVariants as line

-- the word of an instruction; where a field does not fit it is that of UDF 0, at which the machine faults
unfoldable pub word_of : Inst → ℕ
word_of i = unwrap_or (encoding i) 0xe7f000f0

abbrev pub inst : Inst → Line
inst i = line.Word (word_of i)
