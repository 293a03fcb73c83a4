use Rattle.std.proofs.Common.{◌≡◌, ℕ, ◌<◌, ◌==◌, length, take, get_or, None, position}
use Rattle.bk_callees.proofs.callees.first_funcs.Given as goal

abbrev pub invariant-loop-place : goal.invariant-loop-place
invariant-loop-place l = (length l.firsts.items ≡ l.names) × ((s : ℕ) → s < l.names → get_or l.firsts.items s None ≡ position (λ f. f.name == s) (take l.place l.funcs))
