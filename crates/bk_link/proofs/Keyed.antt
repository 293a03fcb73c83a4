-- What the keys of an area have of its words.
use Rattle.std.proofs.Common.{◌≡◌, ◌≢◌, ℕ, ◌+◌, ◌^◌, ◌<◌, ◌≤◌, List, length, arith, ⊎_elim}
use Rattle.std.specs.Prelude.{slice_index}
use Rattle.std.specs.List.{All, AllPairs}
use Rattle.std.proofs.lemmas.Bool.{cases_lt}
use Rattle.std.proofs.lemmas.List.{get_or_past}
use Rattle.bk_piece.specs.Rising.{full, keys_in}
use Rattle.bk_piece.proofs.Elements.{found, from_found, same_tests}
use Rattle.bk_piece.proofs.Full.{all_keys, in_keys, from_keys}
use Rattle.bk_piece.proofs.Rising.{rising_length}
use Rattle.bk_link.specs.Sites.{is_among}

-- codes fit 32 bits
pub narrow_codes : (words keys : List ℕ) → All (λ w. w ≤ 13) words → keys ≡ keys_in words → (k : ℕ) → slice_index keys k < 2 ^ 32
narrow_codes words keys h e k =
    rw e (⊎_elim (λ l. omega (arith, all_keys (λ c. c ≤ 13) words h k 0 l)) (λ l. omega (arith, get_or_past (keys_in words) k 0 l)) (cases_lt k (length (keys_in words))))

-- there are as many keys as words that hold one
pub pool_length : (words : List ℕ) → AllPairs (λ x y. x ≢ y) (full words) → length (keys_in words) ≡ length (full words)
pool_length words d = rising_length (full words) d

-- a name's key is among the words where it is among the keys
pub among_keys : (words : List ℕ) (n : ℕ) → is_among (keys_in words) n ≡ is_among words n
among_keys words n = same_tests (is_among (keys_in words) n) (is_among words n)
    (λ t. found words (n + 1) (from_keys words (n + 1) (from_found (keys_in words) (n + 1) t)).1)
    (λ t. found (keys_in words) (n + 1) (in_keys words (n + 1) (λ z. absurd (omega arith)) (from_found words (n + 1) t)))
