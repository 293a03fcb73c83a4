use Rattle.std.proofs.Common.{◌≡◌, ◌+◌, ◌*◌, ◌≤◌, drop}
use Rattle.bk_func.specs.Words.{count_words}
use Rattle.bk_func.proofs.signature.count_words.Given as goal

abbrev pub invariant-loop-ty : goal.invariant-loop-ty
invariant-loop-ty l = record { is : l.words + count_words l.target (drop l.ty-index l.types) ≡ count_words l.target l.types; few : l.words ≤ 2 * l.ty-index }
