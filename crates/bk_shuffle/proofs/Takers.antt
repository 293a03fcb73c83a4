-- How many moves take from a place.
use Rattle.std.proofs.Common.{◌≡◌, ℕ, ◌+◌, refl, ap, sym, ◌∙◌, arith, List, ◌∷◌, Some, Bool, true, false, cond, ◌==◌, eq-eqb, ne_eqb}
use Rattle.std.specs.Prelude.{not, ◌&&◌, count_by, sum_by}
use Rattle.std.specs.Option.{unwrap_or, option_map}
use Rattle.std.specs.Map.{values_of, remove_entry}
use Rattle.std.specs.Ordering.{nat_cmp}
use Rattle.std.specs.BTreeMap.{BTreeMap, get, is_at}
use Rattle.std.proofs.lemmas.Map.Entries.{sum_by-remove_entry}
use Rattle.std.proofs.lemmas.List.Sums.{sum_by-cons}
use Rattle.bk_func.specs.declared.parts.Loc.TheVariants.{Swap}
use Rattle.bk_shuffle.specs.Sequence.{Move, place_of, takes_from}
use Rattle.bk_shuffle.specs.Left.{taker, takers}

taker_by : (m : Move) (p : ℕ) (a b : Bool) → (place_of m.0 == p) ≡ a → (place_of m.1 == p) ≡ b → taker m p ≡ cond (a && not b) 1 0
taker_by m p a b e f = ap (λ x. cond (x && not (place_of m.1 == p)) 1 0) e ∙ ap (λ y. cond (a && not y) 1 0) f

pub taker_same : (m : Move) → ¬ (place_of m.0 ≡ place_of m.1) → taker m (place_of m.0) ≡ 1
taker_same m n = taker_by m (place_of m.0) true false (eq-eqb (place_of m.0) (place_of m.0) refl) (ne_eqb (place_of m.1) (place_of m.0) (λ e. n (sym e)))

pub taker_other : (m : Move) (p : ℕ) → ¬ (p ≡ place_of m.0) → taker m p ≡ 0
taker_other m p n = taker_by m p false (place_of m.1 == p) (ne_eqb (place_of m.0) p (λ e. n (sym e))) refl

never : (b : Bool) → ◌≡◌ {A = ℕ} (cond (b && not b) 1 0) 0
never true = refl
never false = refl

pub taker_itself : (m : Move) (p : ℕ) → place_of m.0 ≡ place_of m.1 → taker m p ≡ 0
taker_itself m p e = taker_by m p (place_of m.1 == p) (place_of m.1 == p) (ap (λ n. n == p) e) refl ∙ never (place_of m.1 == p)

pub takers_cons : (m : Move) (ms : List Move) (p : ℕ) → count_by (takes_from p) (m ∷ ms) ≡ taker m p + count_by (takes_from p) ms
takers_cons m ms p = sum_by-cons (λ x. cond (takes_from p x) 1 0) m ms

pub takers_out : (old new : BTreeMap ℕ Move) (k : ℕ) (m : Move) (p : ℕ) → new.entries ≡ remove_entry (is_at (nat_cmp k)) old.entries → get nat_cmp old k ≡ Some m → takers new p + taker m p ≡ takers old p
takers_out old new k m p e g =
    let f : Move → ℕ = λ x. cond (takes_from p x) 1 0 in
    ap (λ es. sum_by f (values_of es) + taker m p) e
    ∙ (ap (λ o. sum_by f (values_of (remove_entry (is_at (nat_cmp k)) old.entries)) + unwrap_or (option_map f o) 0) (sym g)
    ∙ sum_by-remove_entry f (is_at (nat_cmp k)) old.entries)

-- the first move takes from the swap word then
pub takers_swapped : (old new : BTreeMap ℕ Move) (k : ℕ) (m : Move) (es : List (ℕ × Move)) (p : ℕ) → old.entries ≡ (k, m) ∷ es → new.entries ≡ (k, (Swap, m.1)) ∷ es → ¬ (p ≡ place_of Swap) →
    takers old p ≡ takers new p + taker m p
takers_swapped old new k m es p a b n =
    let x : takers old p ≡ taker m p + count_by (takes_from p) (values_of es) = ap (λ xs. count_by (takes_from p) (values_of xs)) a ∙ takers_cons m (values_of es) p in
    let y : takers new p ≡ taker (Swap, m.1) p + count_by (takes_from p) (values_of es) = ap (λ xs. count_by (takes_from p) (values_of xs)) b ∙ takers_cons (Swap, m.1) (values_of es) p in
    let z : taker (Swap, m.1) p ≡ 0 = taker_other (Swap, m.1) p n in
    omega (arith, x, y, z)
