-- Bytes in hexadecimal digits, one more at a time.
use Rattle.std.proofs.Common.{◌≡◌, ℕ, ◌+◌, List, ◌++◌, slice_index, add-one, append_assoc, ap, ◌∙◌}
use Rattle.bk_dump.specs.Print.{hex, hex_to}

-- the first k + 1 bytes are the first k and one more
pub hex_more : (old now then_now bytes : List ℕ) (k byte : ℕ) → now ≡ old ++ hex_to bytes k → byte ≡ slice_index bytes k → then_now ≡ now ++ hex byte → then_now ≡ old ++ hex_to bytes (k + 1)
unfolding hex_to
hex_more old now then_now bytes k byte before is written =
    rw add-one (written ∙ ap (λ xs. xs ++ hex byte) before ∙ append_assoc old (hex_to bytes k) (hex byte) ∙ ap (λ b. old ++ (hex_to bytes k ++ hex b)) is)
