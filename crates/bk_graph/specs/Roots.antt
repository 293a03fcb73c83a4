-- What values stand for, by places: steps from each place to the one that it yields to.
use Rattle.std.specs.Prelude.{◌≡◌, ◌≢◌, ℕ, zero, suc, ◌+◌, ◌<◌, ◌≤◌, ◌==◌, if◌then◌else◌, true, List, length, slice_index_or}
use Rattle.bk_graph.specs.Lists.{picked}

-- what a list says of a place: past its end the place itself
abbrev pub root_of : List ℕ → ℕ → ℕ
root_of rs p = slice_index_or rs p p

-- where at most k steps lead
unfoldable pub follow : ℕ → List ℕ → ℕ → ℕ
follow zero xs p = p
follow (suc k) xs p = if root_of xs p == p then p else follow k xs (root_of xs p)

abbrev pub root_in : List ℕ → ℕ → ℕ
root_in xs p = follow (length xs) xs p

abbrev pub roots : List ℕ → List ℕ
roots xs = picked (λ k. true) (λ k x. root_in xs k) 0 xs

abbrev pub relabelled : ℕ → ℕ → ℕ → ℕ
relabelled from to r = if r == from then to else r

-- how many of the first places stand for themselves
unfoldable pub staying : List ℕ → ℕ → ℕ
staying rs zero = 0
staying rs (suc n) = (if root_of rs n == n then 1 else 0) + staying rs n

-- steps lead down to places that stay, and are no more than there are places that yield
pub record IsTree (xs : List ℕ) : Type 0 where
  pub depth : ℕ → ℕ
  pub within : (p : ℕ) → p < length xs → root_of xs p < length xs
  pub falls : (p : ℕ) → root_of xs p ≢ p → depth (root_of xs p) < depth p
  pub last : (p : ℕ) → root_of xs p ≡ p → depth p ≡ 0
  pub few : (p : ℕ) → depth p + staying xs (length xs) ≤ length xs
