-- The flags in one number: N, Z, C and V from bit 3 down.
use Rattle.std.specs.Prelude.{ℕ, ◌/◌, ◌%◌, ◌==◌}
use Rattle.bk_arm_isa.specs.declared.flags.Flags.{Flags}

abbrev pub flags_of : ℕ → Flags
flags_of n = record { negative = n / 8 % 2 == 1; zero = n / 4 % 2 == 1; carry = n / 2 % 2 == 1; overflow = n % 2 == 1 }
