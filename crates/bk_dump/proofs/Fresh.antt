-- Names of which none comes again, one name further at a time.
use Rattle.std.proofs.Common.{◌≡◌, ℕ, ◌+◌, List, [], ◌∷◌, ◌++◌, map, drop, ap, ◌∙◌, sym, Bool, true, false}
use Rattle.std.specs.Prelude.{not, ◌&&◌}
use Rattle.std.specs.List.{list_any}
use Rattle.std.specs.Str.{bytes_eq}
use Rattle.bk_dump.specs.Trees.{ParameterTree}
use Rattle.bk_dump.specs.Drafts.{are_fresh}

abbrev pub names_of : List ParameterTree → List (List ℕ)
names_of ps = map (λ p. p.name) ps

-- the next name is not among those before it
pub fresh_goes_on : (seen more : List (List ℕ)) (ps : List ParameterTree) (i : ℕ) (p : ParameterTree) (all : Bool) → drop i ps ≡ p ∷ drop (i + 1) ps → list_any (λ m. bytes_eq p.name m) seen ≡ false → more ≡ seen ++ p.name ∷ [] → are_fresh seen (names_of (drop i ps)) ≡ all → are_fresh more (names_of (drop (i + 1) ps)) ≡ all
fresh_goes_on seen more ps i p all cut free e g =
    ap (λ s. are_fresh s (names_of (drop (i + 1) ps))) e
    ∙ sym (ap (λ b. not b && are_fresh (seen ++ p.name ∷ []) (names_of (drop (i + 1) ps))) free)
    ∙ sym (ap (λ xs. are_fresh seen (names_of xs)) cut)
    ∙ g

-- the next name is among them
pub fresh_ends : (seen : List (List ℕ)) (ps : List ParameterTree) (i : ℕ) (p : ParameterTree) (all : Bool) → drop i ps ≡ p ∷ drop (i + 1) ps → list_any (λ m. bytes_eq p.name m) seen ≡ true → are_fresh seen (names_of (drop i ps)) ≡ all → all ≡ false
fresh_ends seen ps i p all cut taken g =
    sym g
    ∙ ap (λ xs. are_fresh seen (names_of xs)) cut
    ∙ ap (λ b. not b && are_fresh (seen ++ p.name ∷ []) (names_of (drop (i + 1) ps))) taken
