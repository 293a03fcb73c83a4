use Rattle.std.proofs.Common.{◌≡◌, ◌+◌, ◌++◌, ℕ, length, drop}
use Rattle.std.specs.BTreeMap.{get}
use Rattle.std.specs.Ordering.{nat_cmp}
use Rattle.bk_calls.specs.Arguments.{arg_regs, argument_number, is_named}
use Rattle.bk_calls.proofs.arguments.Arguments.listed.Given as goal

abbrev pub invariant-loop-place : goal.invariant-loop-place
invariant-loop-place l = record {
  values : l.arguments.values.items ++ arg_regs (is_named l.blocks) l.place l.arguments.next (drop l.place l.types)
      ≡ arg_regs (is_named l.blocks) 0 l.first l.types;
  numbers : (i : ℕ) → get nat_cmp l.arguments.numbers i ≡ argument_number l.arguments.values.items i;
  next : l.arguments.next ≡ l.first + length l.arguments.values.items;
}
