use Rattle.std.proofs.Common.{ℕ, ◌<◌, get_or, take}
use Rattle.std.specs.List.{All}
use Rattle.bk_form.proofs.rounds.all_above.Given as goal

abbrev pub invariant-loop-place : goal.invariant-loop-place
invariant-loop-place l = All (λ (p : ℕ). 0 < get_or l.ranks p 0 → (0 < l.low × l.low < get_or l.ranks p 0)) (take l.place-index l.places)
