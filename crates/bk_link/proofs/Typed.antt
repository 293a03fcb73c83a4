-- Functions with their pieces, one by one.
use Rattle.std.proofs.Common.{◌≡◌, ◌==◌, true, List, [], ◌∷◌, length, refl, ap, suc, arith, ℕ}
use Rattle.std.specs.Prelude.{◌↔◌}
use Rattle.std.specs.List.{All, zip}
use Rattle.std.proofs.lemmas.Bool.{eqb-true}
use Rattle.std.proofs.lemmas.List.Elements.{All-nil, All-cons, All-head, All-tail}
use Rattle.bk_func.specs.Records.{FuncRecord}
use Rattle.bk_piece.specs.Pieces.{PieceRecord}
use Rattle.bk_link.specs.Conditions.{IsTyped, AreTyped}

abbrev pub HasTypes : List (List ℕ) → FuncRecord × PieceRecord → Type 0
HasTypes words q = IsTyped words q.0 q.1

pub typed_length : (words : List (List ℕ)) (fs : List FuncRecord) (ps : List PieceRecord) → AreTyped words fs ps → length fs ≡ length ps
typed_length words [] [] h = refl
typed_length words [] (p ∷ ps) h = absurd h
typed_length words (f ∷ fs) [] h = absurd h
typed_length words (f ∷ fs) (p ∷ ps) h = ap suc (typed_length words fs ps h.1)

pub typed_not : (words : List (List ℕ)) (fs : List FuncRecord) (ps : List PieceRecord) → (length fs ≡ length ps → ⊥) → length fs == length ps ≡ true ↔ AreTyped words fs ps
typed_not words fs ps ne = ((λ t. absurd (ne (eqb-true (length fs) (length ps) t))), (λ h. absurd (ne (typed_length words fs ps h))))

pub zip_typed : (words : List (List ℕ)) (fs : List FuncRecord) (ps : List PieceRecord) → length fs ≡ length ps → All (HasTypes words) (zip fs ps) ↔ AreTyped words fs ps
zip_typed words [] [] e = ((λ h. tt), (λ h. All-nil (HasTypes words)))
zip_typed words [] (p ∷ ps) e = absurd (omega (arith, e))
zip_typed words (f ∷ fs) [] e = absurd (omega (arith, e))
zip_typed words (f ∷ fs) (p ∷ ps) e =
    let rest = zip_typed words fs ps (omega (arith, e)) in (
      (λ h. (All-head (HasTypes words) (f, p) (zip fs ps) h, rest.0 (All-tail (HasTypes words) (f, p) (zip fs ps) h))),
      (λ h. All-cons (HasTypes words) (f, p) (zip fs ps) h.0 (rest.1 h.1)),
    )
