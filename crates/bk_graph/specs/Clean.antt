-- Clean: what its rules ask of ops and of truth values.
use Rattle.std.specs.Prelude.{ℕ, zero, ℤ, pos, Bool, true, false}
use Rattle.bk_ops.specs.declared.family.Family.{Family}
use Rattle.bk_ops.specs.declared.family.Family.TheVariants as op

abbrev pub is_phi : Family → Bool
is_phi op.Phi = true
is_phi _ = false

-- the place of the successor that a truth value takes
abbrev pub place_taken : ℤ → ℕ
place_taken (pos zero) = 1
place_taken _ = 0
