-- no place before passes
use Rattle.std.proofs.Common.{◌≡◌, ℕ, ◌<◌, get_or, None, false}
use Rattle.bk_alloc.specs.Registers.{is_open}
use Rattle.bk_alloc.proofs.registers.first_open.Given as goal

abbrev pub invariant-loop-place : goal.invariant-loop-place
invariant-loop-place l = (k : ℕ) → k < l.place → is_open (get_or l.held k None) ≡ false
