-- One move less takes from its source.
use Rattle.std.proofs.Common.{◌≡◌, ℕ, ◌+◌, ◌-◌, refl, ap, sym, ◌∙◌, arith, Option, Some, None, true, cond}
use Rattle.std.specs.Prelude.{IsSome}
use Rattle.std.specs.Map.{count_at}
use Rattle.std.specs.Ordering.{nat_cmp}
use Rattle.std.specs.BTreeMap.{BTreeMap, get, is_at}
use Rattle.std.specs.BTreeSet.{BTreeSet, contains}
use Rattle.bk_func.specs.declared.parts.Loc.TheVariants.{Swap}
use Rattle.bk_shuffle.specs.Sequence.{Move, place_of}
use Rattle.bk_shuffle.specs.Left.{AreLeft, taker, takers, AreCounts, AreFree}
use Rattle.bk_shuffle.proofs.Entries.{found_placed}
use Rattle.bk_shuffle.proofs.Takers.{taker_same, taker_other}
use Rattle.bk_shuffle.proofs.Freed.{free_with, free_kept}

found_apart : (left : BTreeMap ℕ Move) (p : ℕ) → AreLeft left → (o : Option Move) → get nat_cmp left p ≡ o → IsSome o → ¬ (p ≡ place_of Swap)
found_apart left p a None g s = absurd cc
found_apart left p a (Some m) g s = (found_placed p m left.entries a.placed g).1

-- no move goes to the swap word
pub there_apart : (left : BTreeMap ℕ Move) (p : ℕ) → AreLeft left → IsSome (get nat_cmp left p) → ¬ (p ≡ place_of Swap)
there_apart left p a s = found_apart left p a (get nat_cmp left p) refl s

rest_is : (left : BTreeMap ℕ Move) (counts : BTreeMap ℕ ℕ) (m : Move) (from count rest : ℕ) → from ≡ place_of m.0 → ¬ (place_of m.0 ≡ place_of m.1) → AreLeft left → AreCounts counts (λ p. takers left p + taker m p) →
    count ≡ count_at (get nat_cmp counts) from → rest ≡ count - 1 → IsSome (get nat_cmp left from) → rest ≡ takers left from
rest_is left counts m from count rest f apart a c e r s =
    let x : count_at (get nat_cmp counts) from ≡ takers left from + taker m from = c.each from (there_apart left from a s) in
    let y : taker m from ≡ 1 = ap (taker m) f ∙ taker_same m apart in
    omega (arith, x, y, e, r)

others : (left : BTreeMap ℕ Move) (m : Move) (from p : ℕ) → from ≡ place_of m.0 → ¬ (p ≡ from) → takers left p + taker m p ≡ takers left p
others left m from p f n = let y : taker m p ≡ 0 = taker_other m p (λ r. n (r ∙ sym f)) in omega (arith, y)

pub released_with : (left : BTreeMap ℕ Move) (counts : BTreeMap ℕ ℕ) (free now : BTreeSet ℕ) (m : Move) (from count rest : ℕ) → from ≡ place_of m.0 → ¬ (place_of m.0 ≡ place_of m.1) → AreLeft left →
    AreCounts counts (λ p. takers left p + taker m p) → AreFree free left (λ p. takers left p + taker m p) → count ≡ count_at (get nat_cmp counts) from → rest ≡ count - 1 → rest ≡ 0 → IsSome (get nat_cmp left from) →
    ((p : ℕ) → contains nat_cmp now p ≡ cond (is_at (nat_cmp from) p) true (contains nat_cmp free p)) → AreFree now left (takers left)
released_with left counts free now m from count rest f apart a c b e r z s put =
    let x = rest_is left counts m from count rest f apart a c e r s in
    free_with free now left (λ p. takers left p + taker m p) (takers left) from b put s (sym x ∙ z) (λ p n. others left m from p f n)

pub released_not : (left : BTreeMap ℕ Move) (counts : BTreeMap ℕ ℕ) (free : BTreeSet ℕ) (m : Move) (from count rest : ℕ) → from ≡ place_of m.0 → ¬ (place_of m.0 ≡ place_of m.1) → AreLeft left →
    AreCounts counts (λ p. takers left p + taker m p) → AreFree free left (λ p. takers left p + taker m p) → count ≡ count_at (get nat_cmp counts) from → rest ≡ count - 1 → (IsSome (get nat_cmp left from) → rest ≡ 0 → ⊥) →
    AreFree free left (takers left)
released_not left counts free m from count rest f apart a c b e r n =
    free_kept free left (λ p. takers left p + taker m p) (takers left) from b
    (let y : taker m from ≡ 1 = ap (taker m) f ∙ taker_same m apart in omega (arith, y))
    (λ s z. n s (rest_is left counts m from count rest f apart a c e r s ∙ z)) (λ p q. others left m from p f q)
