use Rattle.std.proofs.Common.{ℕ, ◌<◌, List, get_or, map, string_bytes}
use Rattle.bk_top.specs.Commands.{SpellsArgument}
use Rattle.bk_top.proofs.command.number.are_arguments.Given as goal

abbrev pub invariant-loop-word : goal.invariant-loop-word
invariant-loop-word l = (k : ℕ) (d : List ℕ) → k < l.word-index → SpellsArgument (get_or (map string_bytes l.words) k d)
