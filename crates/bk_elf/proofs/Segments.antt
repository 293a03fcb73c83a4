-- Bytes cut into segments that follow one another.
use Rattle.std.proofs.Common.{◌≡◌, ℕ, ◌+◌, List, [], ◌∷◌, ◌++◌, length, take, drop, refl, sym, ap, ◌∙◌, arith}
use Rattle.std.proofs.lemmas.List.{drop-drop, drop_all, take-append-drop, take_at, drop_at}
use Rattle.std.specs.List.{AllByRecursion}

-- a place and the bytes that stand there
pub record Segment : Type 0 where
  pub place : ℕ
  pub bytes : List ℕ

-- each begins where the one before it ends, the first at this place
abbrev pub Chained : ℕ → List Segment → Type 0
Chained start [] = Unit {0}
Chained start (s ∷ ss) = (s.place ≡ start) × Chained (s.place + length s.bytes) ss

-- where the last one ends
abbrev pub end_of : ℕ → List Segment → ℕ
end_of start [] = start
end_of start (s ∷ ss) = end_of (s.place + length s.bytes) ss

abbrev pub flat : List Segment → List ℕ
flat [] = []
flat (s ∷ ss) = s.bytes ++ flat ss

abbrev pub Stands : List ℕ → Segment → Type 0
Stands bytes s = take (length s.bytes) (drop s.place bytes) ≡ s.bytes

pub flat_stands : (bytes : List ℕ) (start : ℕ) (ss : List Segment) → Chained start ss → drop start bytes ≡ flat ss → AllByRecursion (Stands bytes) ss
flat_stands bytes start [] chain is = tt
flat_stands bytes start (s ∷ ss) chain is =
    let here : drop s.place bytes ≡ s.bytes ++ flat ss = rw chain.0 is in
    let next : drop (s.place + length s.bytes) bytes ≡ flat ss =
    sym (drop-drop (length s.bytes) s.place bytes) ∙ ap (drop (length s.bytes)) here ∙ drop_at s.bytes (flat ss) (length s.bytes) refl in (
      ap (take (length s.bytes)) here ∙ take_at s.bytes (flat ss) (length s.bytes) refl,
      flat_stands bytes (s.place + length s.bytes) ss chain.1 next,
    )

pub stands_flat : (bytes : List ℕ) (start : ℕ) (ss : List Segment) → Chained start ss → length bytes ≡ end_of start ss → AllByRecursion (Stands bytes) ss
    → drop start bytes ≡ flat ss
stands_flat bytes start [] chain whole all = drop_all start bytes (omega arith)
stands_flat bytes start (s ∷ ss) chain whole all =
    let rest = stands_flat bytes (s.place + length s.bytes) ss chain.1 whole all.1 in
    let cut = sym (take-append-drop (length s.bytes) (drop s.place bytes)) in
    rw (← chain.0) (cut ∙ rw (all.0, drop-drop (length s.bytes) s.place bytes, rest) refl)
