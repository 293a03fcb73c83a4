-- Which destinations are free.
use Rattle.std.proofs.Common.{◌≡◌, ℕ, ◌<◌, ap, sym, ◌∙◌, subst, arith, ◌⊎◌, inl, inr, Option, None, Bool, true, false, cond}
use Rattle.std.specs.Prelude.{◌↔◌, IsSome}
use Rattle.std.specs.Ordering.{nat_cmp}
use Rattle.std.specs.BTreeMap.{BTreeMap, get, is_at}
use Rattle.std.specs.BTreeSet.{BTreeSet, contains}
use Rattle.std.proofs.lemmas.Bool.{cases_eq}
use Rattle.bk_shuffle.specs.Sequence.{Move}
use Rattle.bk_shuffle.specs.Left.{takers, AreFree, AreOthers}
use Rattle.bk_shuffle.proofs.Entries.{hit_same, hit_other}

-- the same places, and counts that are the same there
pub free_moved : (free now : BTreeSet ℕ) (old new : BTreeMap ℕ Move) (n k : ℕ → ℕ) → AreFree free old n → ((p : ℕ) → contains nat_cmp now p ≡ contains nat_cmp free p) →
    ((p : ℕ) → IsSome (get nat_cmp new p) ↔ IsSome (get nat_cmp old p)) → ((p : ℕ) → IsSome (get nat_cmp old p) → n p ≡ k p) → AreFree now new k
free_moved free now old new n k a same there counts = record { each = λ p. (forward p, λ q. back p q.0 q.1) }
  where
    forward : (p : ℕ) → contains nat_cmp now p ≡ true → IsSome (get nat_cmp new p) × (k p ≡ 0)
    forward p h = let (s, z) = (a.each p).0 (sym (same p) ∙ h) in ((there p).1 s, sym (counts p s) ∙ z)

    back : (p : ℕ) → IsSome (get nat_cmp new p) → k p ≡ 0 → contains nat_cmp now p ≡ true
    back p s z = same p ∙ (a.each p).1 ((there p).0 s, counts p ((there p).0 s) ∙ z)

-- a place is put in
pub free_with : (free now : BTreeSet ℕ) (left : BTreeMap ℕ Move) (n k : ℕ → ℕ) (from : ℕ) → AreFree free left n → ((p : ℕ) → contains nat_cmp now p ≡ cond (is_at (nat_cmp from) p) true (contains nat_cmp free p)) →
    IsSome (get nat_cmp left from) → k from ≡ 0 → ((p : ℕ) → ¬ (p ≡ from) → n p ≡ k p) → AreFree now left k
free_with free now left n k from a put there zero counts = record { each = λ p. (λ h. forward p h (cases_eq p from), λ q. back p q.0 q.1 (cases_eq p from)) }
  where
    forward : (p : ℕ) → contains nat_cmp now p ≡ true → (p ≡ from) ⊎ (p ≡ from → ⊥) → IsSome (get nat_cmp left p) × (k p ≡ 0)
    forward p h (inl e) = (subst (λ (q : ℕ). IsSome (get nat_cmp left q)) (sym e) there, ap k e ∙ zero)
    forward p h (inr m) =
        let P : Bool → Type 0 = λ b. cond b true (contains nat_cmp free p) ≡ true in
        let (s, z) = (a.each p).0 (subst P (hit_other from p m) (sym (put p) ∙ h)) in
        (s, sym (counts p m) ∙ z)

    back : (p : ℕ) → IsSome (get nat_cmp left p) → k p ≡ 0 → (p ≡ from) ⊎ (p ≡ from → ⊥) → contains nat_cmp now p ≡ true
    back p s z (inl e) = put p ∙ ap (λ b. cond b true (contains nat_cmp free p)) (hit_same from p e)
    back p s z (inr m) = put p ∙ (ap (λ b. cond b true (contains nat_cmp free p)) (hit_other from p m) ∙ (a.each p).1 (s, counts p m ∙ z))

-- a place is taken out
pub free_without : (free now : BTreeSet ℕ) (left : BTreeMap ℕ Move) (n k : ℕ → ℕ) (from : ℕ) → AreFree free left n → ((p : ℕ) → contains nat_cmp now p ≡ cond (is_at (nat_cmp from) p) false (contains nat_cmp free p)) →
    0 < k from → ((p : ℕ) → ¬ (p ≡ from) → n p ≡ k p) → AreFree now left k
free_without free now left n k from a out some counts = record { each = λ p. (λ h. forward p h (cases_eq p from), λ q. back p q.0 q.1 (cases_eq p from)) }
  where
    forward : (p : ℕ) → contains nat_cmp now p ≡ true → (p ≡ from) ⊎ (p ≡ from → ⊥) → IsSome (get nat_cmp left p) × (k p ≡ 0)
    forward p h (inl e) =
        let z : contains nat_cmp now p ≡ false = out p ∙ ap (λ b. cond b false (contains nat_cmp free p)) (hit_same from p e) in
        absurd cc
    forward p h (inr m) =
        let P : Bool → Type 0 = λ b. cond b false (contains nat_cmp free p) ≡ true in
        let (s, z) = (a.each p).0 (subst P (hit_other from p m) (sym (out p) ∙ h)) in
        (s, sym (counts p m) ∙ z)

    back : (p : ℕ) → IsSome (get nat_cmp left p) → k p ≡ 0 → (p ≡ from) ⊎ (p ≡ from → ⊥) → contains nat_cmp now p ≡ true
    back p s z (inl e) = let y = ap k e in absurd (omega (arith, some, y, z))
    back p s z (inr m) = out p ∙ (ap (λ b. cond b false (contains nat_cmp free p)) (hit_other from p m) ∙ (a.each p).1 (s, counts p m ∙ z))

-- nothing is put in for a move
pub free_kept : (free : BTreeSet ℕ) (left : BTreeMap ℕ Move) (n k : ℕ → ℕ) (from : ℕ) → AreFree free left n → 0 < n from → (IsSome (get nat_cmp left from) → k from ≡ 0 → ⊥) → ((p : ℕ) → ¬ (p ≡ from) → n p ≡ k p) → AreFree free left k
free_kept free left n k from a some not counts = record { each = λ p. (λ h. forward p h (cases_eq p from), λ q. back p q.0 q.1 (cases_eq p from)) }
  where
    forward : (p : ℕ) → contains nat_cmp free p ≡ true → (p ≡ from) ⊎ (p ≡ from → ⊥) → IsSome (get nat_cmp left p) × (k p ≡ 0)
    forward p h (inl e) = let z = ((a.each p).0 h).1 in let y = ap n e in absurd (omega (arith, some, y, z))
    forward p h (inr m) = let (s, z) = (a.each p).0 h in (s, sym (counts p m) ∙ z)

    back : (p : ℕ) → IsSome (get nat_cmp left p) → k p ≡ 0 → (p ≡ from) ⊎ (p ≡ from → ⊥) → contains nat_cmp free p ≡ true
    back p s z (inl e) = absurd (not (subst (λ (q : ℕ). IsSome (get nat_cmp left q)) e s) (sym (ap k e) ∙ z))
    back p s z (inr m) = (a.each p).1 (s, counts p m ∙ z)

-- the place that is done is taken out of both
pub free_done : (free : BTreeSet ℕ) (old new : BTreeMap ℕ Move) (k : ℕ → ℕ) (place : ℕ) → AreOthers free old place → ((p : ℕ) → get nat_cmp new p ≡ cond (is_at (nat_cmp place) p) None (get nat_cmp old p)) →
    ((p : ℕ) → takers old p ≡ k p) → AreFree free new k
free_done free old new k place a out counts = record { each = λ p. (forward p, λ q. back p q.0 q.1 (cases_eq p place)) }
  where
    forward : (p : ℕ) → contains nat_cmp free p ≡ true → IsSome (get nat_cmp new p) × (k p ≡ 0)
    forward p h =
        let (s, z, m) = (a.each p).0 h in
        let g : get nat_cmp new p ≡ get nat_cmp old p = out p ∙ ap (λ b. cond b None (get nat_cmp old p)) (hit_other place p m) in
        (subst (λ (o : Option Move). IsSome o) (sym g) s, sym (counts p) ∙ z)

    back : (p : ℕ) → IsSome (get nat_cmp new p) → k p ≡ 0 → (p ≡ place) ⊎ (p ≡ place → ⊥) → contains nat_cmp free p ≡ true
    back p s z (inl e) =
        let g : get nat_cmp new p ≡ None = out p ∙ ap (λ b. cond b None (get nat_cmp old p)) (hit_same place p e) in
        let t : IsSome {T = Move} None = subst (λ (o : Option Move). IsSome o) g s in
        absurd cc
    back p s z (inr m) =
        let g : get nat_cmp new p ≡ get nat_cmp old p = out p ∙ ap (λ b. cond b None (get nat_cmp old p)) (hit_other place p m) in
        (a.each p).1 (subst (λ (o : Option Move). IsSome o) g s, counts p ∙ z, m)

-- the least is taken out
pub free_others : (free now : BTreeSet ℕ) (left : BTreeMap ℕ Move) (place : ℕ) → AreFree free left (takers left) → ((p : ℕ) → contains nat_cmp now p ≡ cond (is_at (nat_cmp place) p) false (contains nat_cmp free p)) → AreOthers now left place
free_others free now left place a out = record { each = λ p. (λ h. forward p h (cases_eq p place), λ q. back p q.0 q.1 q.2) }
  where
    forward : (p : ℕ) → contains nat_cmp now p ≡ true → (p ≡ place) ⊎ (p ≡ place → ⊥) → IsSome (get nat_cmp left p) × (takers left p ≡ 0) × ¬ (p ≡ place)
    forward p h (inl e) =
        let z : contains nat_cmp now p ≡ false = out p ∙ ap (λ b. cond b false (contains nat_cmp free p)) (hit_same place p e) in
        absurd cc
    forward p h (inr m) =
        let P : Bool → Type 0 = λ b. cond b false (contains nat_cmp free p) ≡ true in
        let (s, z) = (a.each p).0 (subst P (hit_other place p m) (sym (out p) ∙ h)) in
        (s, z, m)

    back : (p : ℕ) → IsSome (get nat_cmp left p) → takers left p ≡ 0 → ¬ (p ≡ place) → contains nat_cmp now p ≡ true
    back p s z m = out p ∙ (ap (λ b. cond b false (contains nat_cmp free p)) (hit_other place p m) ∙ (a.each p).1 (s, z))
