-- The first places of numbers in a list.
use Rattle.std.proofs.Common.{◌≡◌, ◌∙◌, sym, refl, ap, ℕ, ◌+◌, ◌<◌, ◌==◌, cond, List, length, get_or, take, Option, Some, None, ⊎_elim, arith, position}
use mathlib.Core.Path.{fun_ext}
use Rattle.std.specs.BTreeMap.{get, is_at}
use Rattle.std.specs.List.{find, slice_get}
use Rattle.std.specs.Option.{option_or, option_and_then, unwrap_or}
use Rattle.std.specs.Ordering.{nat_cmp}
use Rattle.std.proofs.lemmas.Bool.{cases_eq, eq-eqb, ne_eqb}
use Rattle.std.proofs.lemmas.Bool.Decides.{nat_tests}
use Rattle.bk_func.specs.Records.{BlockRecord}
use Rattle.bk_graph.specs.declared.places.Places.{Places}
use Rattle.bk_graph.specs.Named.{AreFirsts, block_ids}
use Rattle.bk_graph.specs.Nodes.{or_past, place_by, place_in, control_by, control_in}
use Rattle.bk_graph.proofs.Listed.{position_more, find_position, position-map}

-- a look-up by numbers finds the same number
pub is_at_number : (x n : ℕ) → is_at (nat_cmp x) n ≡ (x == n)
is_at_number x n = grind (arith, nat_tests)

or_here : (o : Option ℕ) (i : ℕ) → Some (unwrap_or o i) ≡ option_or o (Some i)
or_here None i = refl
or_here (Some x) i = refl

or_none : (o : Option ℕ) → o ≡ option_or o None
or_none None = refl
or_none (Some x) = refl

-- the first places, one more number being looked at
pub firsts_more : (ns : List ℕ) (i : ℕ) (f g : ℕ → Option ℕ) (v : ℕ) → i < length ns → ((n : ℕ) → f n ≡ position (λ x. x == n) (take i ns))
    → v ≡ unwrap_or (f (get_or ns i 0)) i → ((n : ℕ) → g n ≡ cond (is_at (nat_cmp (get_or ns i 0)) n) (Some v) (f n))
    → (n : ℕ) → g n ≡ position (λ x. x == n) (take (i + 1) ns)
firsts_more ns i f g v l before is after n =
    let x : ℕ = get_or ns i 0 in
    after n ∙ (rw (is_at_number x n, position_more (λ y. y == n) ns i 0 l, ← before n) (⊎_elim
    (λ (same : x ≡ n). rw (eq-eqb x n same) (ap Some is ∙ or_here (f x) i ∙ ap (λ m. option_or (f m) (Some i)) same))
    (λ (apart : x ≡ n → ⊥). rw (ne_eqb x n apart) (or_none (f n)))
    (cases_eq x n)))

-- the block that has a number first
pub block_first : (bs : List BlockRecord) (m : Places) (n : ℕ) → AreFirsts (block_ids bs) m
    → find (λ b. b.id == n) bs ≡ option_and_then (slice_get bs) (get nat_cmp m.places n)
block_first bs m n h = find_position (λ b. b.id == n) bs ∙ ap (option_and_then (slice_get bs)) (sym (h n ∙ position-map (λ b. b.id) (λ x. x == n) bs))

-- the map of first places gives the places
pub place_by_first : (ids : List ℕ) (m : Places) → AreFirsts ids m → place_by m ≡ place_in ids
place_by_first ids m h = fun_ext (λ n. ap or_past (h n))

pub control_by_first : (ids : List ℕ) (m : Places) → AreFirsts ids m → control_by m ≡ control_in ids
control_by_first ids m h = ap (λ (f : ℕ → Option ℕ). λ control. option_and_then f control) (fun_ext h)
