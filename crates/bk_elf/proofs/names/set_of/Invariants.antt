use Rattle.std.proofs.Common.{take}
use Rattle.std.specs.BTreeSet.{IsFromIterResult}
use Rattle.std.specs.Ordering.{nat_cmp, on}
use Rattle.std.specs.Cmp.Lexicographic.{slice_cmp}
use Rattle.bk_elf.proofs.names.set_of.Given as goal

-- the set has the names so far
abbrev pub invariant-loop-name : goal.invariant-loop-name
invariant-loop-name l = IsFromIterResult (on (λ n. n.now) (slice_cmp nat_cmp)) (take l.name-index l.names) l.set
