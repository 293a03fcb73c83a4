-- The machine's windows: what was written is read again, and the other bytes stay.
use Rattle.std.proofs.Common.{◌≡◌, ℕ, ◌+◌, ◌^◌, ◌<◌, ◌≤◌, List, length, arith, Some, ◌⊎◌}
use Rattle.bk_num.specs.Bytes.{load_in, written}
use Rattle.bk_num.specs.Memory.{data_base}
use Rattle.bk_num.proofs.Memory.{AreApart, read_stack, read_data, write_stack, write_data, reads_written, reads_apart}
use Rattle.bk_arm_isa.specs.Machine.{Machine, IsPlaced, load, store, with_windows}

apart : (m : Machine) → IsPlaced m → AreApart m.pool m.window m.bottom
apart m p = record { low = p.pool; high = p.window }

-- at and above the stack's first byte a load reads the stack alone
pub load_stack : (m : Machine) (size a : ℕ) → IsPlaced m → m.bottom ≤ a → 1 ≤ size → load m size a ≡ load_in m.bottom m.stack size a
load_stack m size a p h s = read_stack m.pool m.window m.bottom m.stack size a (apart m p) h s

-- inside the data window a load reads this alone
pub load_data : (m : Machine) (size a : ℕ) → IsPlaced m → data_base ≤ a → 1 ≤ size → a + size ≤ m.bottom → load m size a ≡ load_in data_base m.window size a
load_data m size a p h s k = read_data m.pool m.window m.bottom m.stack size a (apart m p) h s k

-- a store inside the stack succeeds
pub store_stack : (m : Machine) (size a n : ℕ) → IsPlaced m → m.bottom ≤ a → 1 ≤ size → a + size ≤ m.bottom + length m.stack → store m size a n ≡ Some (m.window, written m.bottom m.stack size a n)
store_stack m size a n p h s k = write_stack m.window m.bottom m.stack size a n p.window h s k

-- a store inside the data window succeeds
pub store_data : (m : Machine) (size a n : ℕ) → data_base ≤ a → a + size ≤ data_base + length m.window → store m size a n ≡ Some (written data_base m.window size a n, m.stack)
store_data m size a n h k = write_data m.window m.bottom m.stack size a n h k

-- the windows stay in their places where the data window keeps its length
pub placed_windows : (m : Machine) (window stack : List ℕ) → IsPlaced m → length window ≡ length m.window → IsPlaced (with_windows m window stack)
placed_windows m window stack p e = let h = p.window in record { pool = p.pool; window = omega arith }

-- the number that was stored is loaded again, wherever it lies
pub loads_stored : (m : Machine) (size a n : ℕ) (w s : List ℕ) → IsPlaced m → 1 ≤ size → n < 256 ^ size → store m size a n ≡ Some (w, s) → load (with_windows m w s) size a ≡ Some n
loads_stored m size a n w s p one lt h = reads_written m.pool m.window m.bottom m.stack size a n w s (apart m p) one lt h

-- what lies apart from a store is loaded as before
pub loads_apart : (m : Machine) (size width a b n : ℕ) (w s : List ℕ) → (b + width ≤ a) ⊎ (a + size ≤ b) → store m size a n ≡ Some (w, s) → load (with_windows m w s) width b ≡ load m width b
loads_apart m size width a b n w s away h = reads_apart m.pool m.window m.bottom m.stack size width a b n w s away h
