use Rattle.std.proofs.Common.{◌≡◌, ◌++◌, drop}
use Rattle.bk_elf.specs.Contents.{word_bytes}
use Rattle.bk_elf.proofs.writer.put_words.Given as goal

-- what is written and what is left
abbrev pub invariant-loop-word : goal.invariant-loop-word
invariant-loop-word l = l.out.items ++ word_bytes (drop l.word-index l.words) ≡ l.initial.out.items ++ word_bytes l.words
