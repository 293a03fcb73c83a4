-- no place before passes
use Rattle.std.proofs.Common.{◌≡◌, ℕ, ◌<◌, get_or, None, false}
use Rattle.bk_alloc.specs.Registers.{is_value}
use Rattle.bk_alloc.proofs.registers.place_of_value.Given as goal

abbrev pub invariant-loop-place : goal.invariant-loop-place
invariant-loop-place l = (k : ℕ) → k < l.place → is_value l.value (get_or l.held k None) ≡ false
