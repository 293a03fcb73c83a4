-- Moves to places of their own, one after the other.
use Rattle.std.proofs.Common.{◌≡◌, ℕ, ◌<◌, ◌+◌, true, false, cond, Bool, ◌||◌, List, [], ◌∷◌, ◌++◌, length, take, get_or, ap, sym, ◌∙◌, arith}
use Rattle.std.specs.Prelude.{◌==◌}
use Rattle.std.specs.List.{All, IsDistinct, list_any}
use Rattle.std.specs.Set.{is_member}
use Rattle.std.specs.BTreeMap.{is_at}
use Rattle.std.specs.Ordering.{nat_cmp}
use Rattle.std.proofs.lemmas.Cmp.{nat_eq_equiv}
use Rattle.std.proofs.lemmas.Grind.{common_steps}
use Rattle.std.proofs.lemmas.List.{map-append, take_more}
use Rattle.std.proofs.lemmas.List.Elements.{All-push}
use Rattle.std.proofs.lemmas.List.Folds.{list_any-append}
use Rattle.std.proofs.lemmas.Map.Keys.{IsDistinct-push}
use Rattle.bk_shuffle.specs.Sequence.{Move, place_of}
use Rattle.bk_shuffle.specs.Left.{GoesToAPlace}
use Rattle.bk_shuffle.specs.AtOnce.{destinations}

-- the moves go to places of their own, which has says of each place
pub record AreApart (has : ℕ → Bool) (ms : List Move) : Type 0 where
  pub goes : All GoesToAPlace ms
  pub apart : IsDistinct (λ p q. p == q) (destinations ms)
  pub same : (q : ℕ) → has q ≡ is_member (λ p r. p == r) (destinations ms) q

also : (q p : ℕ) (b : Bool) → cond (is_at (nat_cmp p) q) true b ≡ (b || ((q == p) || false))
also q p b = grind (arith, common_steps)

destinations_push : (ms : List Move) (m : Move) → destinations (ms ++ m ∷ []) ≡ destinations ms ++ place_of m.1 ∷ []
destinations_push ms m = map-append (λ (n : Move). place_of n.1) ms (m ∷ [])

apart_push : (had has : ℕ → Bool) (ms : List Move) (m : Move) → GoesToAPlace m → had (place_of m.1) ≡ false
    → ((q : ℕ) → has q ≡ cond (is_at (nat_cmp (place_of m.1)) q) true (had q)) → AreApart had ms → AreApart has (ms ++ m ∷ [])
apart_push had has ms m goes new adds known =
    let e = destinations_push ms m in
    record {
      goes = All-push GoesToAPlace ms m known.goes goes;
      apart = rw e (IsDistinct-push nat_eq_equiv (destinations ms) (place_of m.1) known.apart (sym (known.same (place_of m.1)) ∙ new));
      same = λ q.
          adds q ∙ (also q (place_of m.1) (had q) ∙ (ap (λ b. b || ((q == place_of m.1) || false)) (known.same q)
          ∙ (sym (list_any-append (λ r. q == r) (destinations ms) (place_of m.1 ∷ [])) ∙ ap (λ l. list_any (λ r. q == r) l) (sym e))));
    }

-- one move more
pub apart_more : (had has : ℕ → Bool) (ms : List Move) (i : ℕ) (d : Move) (p : ℕ) → i < length ms → p ≡ place_of (get_or ms i d).1 → (p ≡ 4294967552 → ⊥) → had p ≡ false
    → ((q : ℕ) → has q ≡ cond (is_at (nat_cmp p) q) true (had q)) → AreApart had (take i ms) → AreApart has (take (i + 1) ms)
apart_more had has ms i d p l same goes new adds known =
    rw (take_more ms i d l)
    (apart_push had has (take i ms) (get_or ms i d) (λ e. goes (same ∙ e)) (ap had (sym same) ∙ new) (λ q. adds q ∙ ap (λ n. cond (is_at (nat_cmp n) q) true (had q)) same) known)
