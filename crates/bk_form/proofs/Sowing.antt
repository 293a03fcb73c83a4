-- Searches from several starts, one after the other, each of which gives its place as the label.
use Rattle.std.proofs.Common.{◌≡◌, ℕ, ◌≤◌, List, length, get_or, Option, None, arith}
use Rattle.bk_places.proofs.Sowing.{Sown}
use Rattle.bk_places.proofs.Reaching.{path_start}
use Rattle.bk_form.specs.Chains.{AreFirsts}

-- where the starts are the places before which there is none
pub sown_all : (es : List (List ℕ)) (bs : List (Option ℕ)) (i : ℕ) (ls : List (Option ℕ)) (xs : List ℕ) → Sown es (length es) (λ p. get_or bs p None ≡ None) i ls xs → length es ≤ i → AreFirsts bs es ls
sown_all es bs i ls xs s over = record {
  from = λ p e at. let (b, none, path) = s.from p e at in (none, path);
  found = λ e p none path. s.found e p (omega (arith, path_start es (length es) e p path)) none path;
}
