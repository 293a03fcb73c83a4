use Rattle.std.proofs.Common.{◌≡◌, ◌++◌, map, drop}
use Rattle.bk_elf.specs.Contents.{place_of_type}
use Rattle.bk_elf.proofs.gosig.put_types.Given as goal

-- what is written and the types that are left
abbrev pub invariant-loop-ty : goal.invariant-loop-ty
invariant-loop-ty l =
    l.words.items ++ map (place_of_type l.codes) (drop l.ty-index l.types) ≡ l.initial.words.items ++ map (place_of_type l.codes) l.types
