use Rattle.std.proofs.Common.{◌≡◌, ◌++◌, drop}
use Rattle.std.specs.List.{flat_map}
use Rattle.bk_elf.specs.Contents.{sig_words}
use Rattle.bk_elf.proofs.gosig.gosig_words.Given as goal

-- what is written and the signatures that are left
abbrev pub invariant-loop-sig : goal.invariant-loop-sig
invariant-loop-sig l =
    l.words.items ++ flat_map (sig_words l.codes) (drop l.sig-index l.sigs) ≡ l.initial.words.items ++ flat_map (sig_words l.codes) l.sigs
