use Rattle.std.proofs.Common.{◌≡◌, ◌+◌, ◌-◌, ◌*◌, ◌/◌, ◌≤◌, length, drop, count_by}
use Rattle.bk_elf.specs.Lists.{each}
use Rattle.bk_elf.specs.Loading.{is_function, functions_in}
use Rattle.bk_elf.proofs.signatures.count_functions.Given as goal

-- the functions so far and those that are left
abbrev pub invariant-loop-k : goal.invariant-loop-k
invariant-loop-k l = record {
  left : l.count + count_by (λ b. b) (each (is_function l.target) l.size (length l.symtab / l.size - l.k) (drop (l.size * l.k) l.symtab)) ≡ functions_in l.target l.symtab;
  few : l.count ≤ l.k;
}
