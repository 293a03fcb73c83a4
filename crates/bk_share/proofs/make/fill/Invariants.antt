use Rattle.std.proofs.Common.{◌≡◌, ℕ, ◌+◌, ◌<◌, vec_len, slice_index}
use Rattle.std.specs.Slots.{slots_items}
use Rattle.bk_share.proofs.make.fill.Given as goal

abbrev pub invariant-loop-k : goal.invariant-loop-k
invariant-loop-k l = record { len : vec_len l.row ≡ vec_len l.initial.row; same : (j : ℕ) → j < l.k → slice_index l.row.items j ≡ slice_index (slots_items l.closed.words) (l.from + j) }
