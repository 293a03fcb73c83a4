use Rattle.std.proofs.Common.{All, map, drop, string_bytes, ap, ◌∙◌, sym, subst}
use Rattle.std.proofs.lemmas.List.{drop-map}
use Rattle.bk_top.specs.Commands.{SpellsArgument}
use Rattle.bk_top.proofs.Calls.{behind_two}
use Rattle.bk_top.proofs.command.call.call_of.Goals as goal

pub returns-else-are_arguments-clause-none : goal.returns-else-are_arguments-clause-none
returns-else-are_arguments-clause-none c call e is =
    let same = ap (map string_bytes) (behind_two c.args.words.now) ∙ sym (drop-map string_bytes 2 c.args.words.now) ∙ ap (drop 2) e in
    let yes = c.are_arguments.ensures.1 (subst (All SpellsArgument) (sym same) is.1) in
    absurd (cc)
