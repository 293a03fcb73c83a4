use Rattle.std.proofs.Common.{◌≡◌, ℕ, take}
use Rattle.std.specs.BTreeMap.{get}
use Rattle.std.specs.Ordering.{nat_cmp}
use Rattle.bk_form.specs.Numbers.{bearer}
use Rattle.bk_form.proofs.numbers.bearers.Given as goal

abbrev pub invariant-loop-place : goal.invariant-loop-place
invariant-loop-place l = (n : ℕ) → get nat_cmp l.bearers n ≡ bearer (take l.place l.ids) n
