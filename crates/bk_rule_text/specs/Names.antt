-- The names of a rule's variables, each at its number.
use Rattle.std.specs.Prelude.{ℕ, nat_lt, if◌then◌else◌, List, [], ◌∷◌, ◌++◌, Option, Some, None, position}
use Rattle.std.specs.List.{list_any, position_or_len}
use Rattle.std.specs.Str.{bytes_eq}
use Rattle.bk_rule_text.specs.Front.{◌>>=◌}

abbrev pub place_of : List (List ℕ) → List ℕ → Option ℕ
place_of names name = position (bytes_eq name) names

-- the number of a name, and the names with it: one that is new goes last
abbrev pub numbered : List (List ℕ) → List ℕ → ℕ × List (List ℕ)
numbered names name = (position_or_len (bytes_eq name) names, if list_any (bytes_eq name) names then names else names ++ name ∷ [])

-- the variables that may be named: those from a number on
pub record Variables : Type 0 where
  pub names : List (List ℕ)
  pub first : ℕ

-- the number of a variable that may be named
unfoldable pub in_scope : Variables → List ℕ → Option ℕ
in_scope s name = place_of s.names name >>= λ i. if nat_lt i s.first then None else Some i
