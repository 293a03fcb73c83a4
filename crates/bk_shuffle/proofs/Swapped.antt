-- The first move takes from the swap word, or the least free move is done.
use Rattle.std.proofs.Common.{◌≡◌, ℕ, ◌+◌, ◌<◌, refl, ap, sym, ◌∙◌, subst, arith, List, [], ◌∷◌, length, Some, None}
use Rattle.std.specs.Prelude.{IsTrue}
use Rattle.std.specs.List.{AllByRecursion}
use Rattle.std.specs.List.Sorted.{IsStrictlySortedBy}
use Rattle.std.specs.Map.{keys_of, values_of, remove_entry}
use Rattle.std.specs.Ordering.{nat_cmp}
use Rattle.std.specs.BTreeMap.{BTreeMap, IsOrdered, get, is_at, insert_entry, values}
use Rattle.std.specs.BTreeSet.{BTreeSet, contains, IsLowerBound}
use Rattle.std.proofs.lemmas.Map.Keys.{le_from_not_gt}
use Rattle.std.proofs.lemmas.Map.Made.{IsSome-lookup_same_keys}
use Rattle.bk_func.specs.declared.parts.Loc.TheVariants.{Swap}
use Rattle.bk_shuffle.specs.Sequence.{Move, place_of, next}
use Rattle.bk_shuffle.specs.Left.{IsAtItsPlace, AreLeft, taker, takers, AreCounts, AreFree, IsLeastFree}
use Rattle.bk_shuffle.proofs.Entries.{put_first, out_placed}
use Rattle.bk_shuffle.proofs.Takers.{takers_out, takers_swapped}
use Rattle.bk_shuffle.proofs.Freed.{free_moved}
use Rattle.bk_shuffle.proofs.Gathered.{none_in}
use Rattle.bk_shuffle.proofs.Released.{there_apart}
use Rattle.bk_shuffle.proofs.Nexts.{next_swapped, next_end}

pub next_of_none : (es : List (ℕ × Move)) → (0 < length es → ⊥) → next (values_of es) ≡ None
next_of_none [] n = next_end
next_of_none (e ∷ es) n = absurd (n (omega arith))

pub no_keys : (ks : List ℕ) → (0 < length ks → ⊥) → ks ≡ []
no_keys [] n = refl
no_keys (k ∷ ks) n = absurd (n (omega arith))

-- the first entry is x, and its move takes from the swap word then
pub record IsSwapped (old mid new : BTreeMap ℕ Move) (x : ℕ × Move) : Type 0 where
  pub first : old.entries ≡ x ∷ mid.entries
  pub put : new.entries ≡ insert_entry nat_cmp mid.entries x.0 (Swap, x.1.1)

swapped_entries : (old mid new : BTreeMap ℕ Move) (x : ℕ × Move) → AreLeft old → IsSwapped old mid new x → new.entries ≡ (x.0, (Swap, x.1.1)) ∷ mid.entries
swapped_entries old mid new x a w =
    let P : List (ℕ × Move) → Type 0 = λ es. IsStrictlySortedBy nat_cmp (keys_of es) in
    w.put ∙ put_first x.0 (Swap, x.1.1) mid.entries (subst P w.first a.ordered)

pub swapped_left : (old mid new : BTreeMap ℕ Move) (x : ℕ × Move) → AreLeft old → IsSwapped old mid new x → IsOrdered nat_cmp new → AreLeft new
swapped_left old mid new x a w o =
    let Q : List (ℕ × Move) → Type 0 = λ es. AllByRecursion IsAtItsPlace es in
    let (p, r) : IsAtItsPlace x × AllByRecursion IsAtItsPlace mid.entries = subst Q w.first a.placed in
    record { ordered = o; placed = subst Q (sym (swapped_entries old mid new x a w)) (p, r) }

pub swapped_takers : (old mid new : BTreeMap ℕ Move) (x : ℕ × Move) (p : ℕ) → AreLeft old → IsSwapped old mid new x → ¬ (p ≡ place_of Swap) → takers old p ≡ takers new p + taker x.1 p
swapped_takers old mid new x p a w n = takers_swapped old new x.0 x.1 mid.entries p w.first (swapped_entries old mid new x a w) n

pub swapped_counts : (old mid new : BTreeMap ℕ Move) (x : ℕ × Move) (counts : BTreeMap ℕ ℕ) → AreLeft old → IsSwapped old mid new x → AreCounts counts (takers old) → AreCounts counts (λ p. takers new p + taker x.1 p)
swapped_counts old mid new x counts a w c = record { each = λ p n. c.each p n ∙ swapped_takers old mid new x p a w n }

pub swapped_free : (old mid new : BTreeMap ℕ Move) (x : ℕ × Move) (free : BTreeSet ℕ) → AreLeft old → IsSwapped old mid new x → AreFree free old (takers old) → AreFree free new (λ p. takers new p + taker x.1 p)
swapped_free old mid new x free a w f =
    free_moved free free old new (takers old) (λ p. takers new p + taker x.1 p) f (λ p. refl)
    (λ p. IsSome-lookup_same_keys (is_at (nat_cmp p)) new.entries old.entries (ap keys_of (swapped_entries old mid new x a w) ∙ sym (ap keys_of w.first)))
    (λ p s. swapped_takers old mid new x p a w (there_apart old p a s))

pub swapped_next : (old mid new : BTreeMap ℕ Move) (x : ℕ × Move) (free : BTreeSet ℕ) → AreLeft old → IsSwapped old mid new x → AreFree free old (takers old) → free.keys ≡ [] → next (values old) ≡ Some ((x.1.0, Swap), values new)
swapped_next old mid new x free a w f e =
    next_swapped old new x.0 x.1 mid.entries a (λ p s z. none_in free p e ((f.each p).1 (s, z))) w.first (swapped_entries old mid new x a w)

-- a move is done

pub done_left : (old new : BTreeMap ℕ Move) (k : ℕ) → AreLeft old → new.entries ≡ remove_entry (is_at (nat_cmp k)) old.entries → IsOrdered nat_cmp new → AreLeft new
done_left old new k a e o =
    let Q : List (ℕ × Move) → Type 0 = λ es. AllByRecursion IsAtItsPlace es in
    record { ordered = o; placed = subst Q (sym e) (out_placed (is_at (nat_cmp k)) old.entries a.placed) }

pub done_counts : (old new : BTreeMap ℕ Move) (k : ℕ) (m : Move) (counts : BTreeMap ℕ ℕ) → new.entries ≡ remove_entry (is_at (nat_cmp k)) old.entries → get nat_cmp old k ≡ Some m → AreCounts counts (takers old) →
    AreCounts counts (λ p. takers new p + taker m p)
done_counts old new k m counts e g c = record { each = λ p n. c.each p n ∙ sym (takers_out old new k m p e g) }

-- the least free place

pub least_of : (free : BTreeSet ℕ) (left : BTreeMap ℕ Move) (k : ℕ) → AreFree free left (takers left) → IsTrue (contains nat_cmp free k) → IsLowerBound nat_cmp free k → IsLeastFree left k
least_of free left k f h low =
    let (s, z) = (f.each k).0 h in
    record { there = s; free = z; least = λ q t y. le_from_not_gt k q (low q ((f.each q).1 (t, y))) }

pub free_same : (free now : BTreeSet ℕ) (left : BTreeMap ℕ Move) → now.keys ≡ free.keys → AreFree free left (takers left) → AreFree now left (takers left)
free_same free now left e f =
    free_moved free now left left (takers left) (takers left) f (λ p. ap (λ (s : BTreeSet ℕ). contains nat_cmp s p) (same_set e)) (λ p. (λ s. s, λ s. s)) (λ p s. refl)
  where
    same_set : now.keys ≡ free.keys → now ≡ free
    same_set h = ap (λ ks. record { keys = ks }) h
