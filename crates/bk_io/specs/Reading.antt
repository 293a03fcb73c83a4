-- What a reader took of a source.
use Rattle.std.specs.Prelude.{ℕ, ◌≡◌, ◌≤◌, List, Option, length}
use Rattle.std.specs.Io.KnownBytes.{Consumes}

-- at most n bytes were taken from the front of what was left
pub record TookAtMost (old new : Option (List ℕ)) (n : ℕ) : Type 0 where
  pub front : List ℕ
  pub within : length front ≤ n
  pub taken : Consumes old new front

-- exactly n bytes were taken from the front of what was left
pub record TookExactly (old new : Option (List ℕ)) (n : ℕ) : Type 0 where
  pub front : List ℕ
  pub count : length front ≡ n
  pub taken : Consumes old new front
