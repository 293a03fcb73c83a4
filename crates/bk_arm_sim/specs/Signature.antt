-- The words of a signature on arm: those of its arguments, then those of its results.
use Rattle.std.specs.Prelude.{ℕ, ◌+◌}
use Rattle.bk_ops.specs.declared.types.Target.TheVariants.{Arm}
use Rattle.bk_func.specs.Records.{SigRecord}
use Rattle.bk_func.specs.Words.{count_words}

abbrev pub words_of_sig : SigRecord → ℕ
words_of_sig sig = count_words Arm sig.args + count_words Arm sig.results
