-- The values that have slots, as they are gathered.
use Rattle.std.proofs.Common.{◌≡◌, ◌∙◌, sym, ap, ℕ, ◌||◌, false, List, ◌++◌, map, flat_map, eqb-true}
use Rattle.std.specs.Prelude.{◌==◌}
use Rattle.std.specs.BTreeSet.{BTreeSet, contains, IsOrdered}
use Rattle.std.specs.List.{Contains, list_any}
use Rattle.std.specs.Ordering.{nat_cmp}
use Rattle.std.proofs.lemmas.Cmp.{nat_eq_equiv}
use Rattle.std.proofs.lemmas.List.Folds.{flat_map-map}
use Rattle.std.proofs.lemmas.List.Kept.{AllPairs-from_increasing}
use Rattle.std.proofs.lemmas.Map.Keys.{IsStrictlyIncreasing-from_sorted}
use Rattle.std.proofs.lemmas.Map.Views.{Contains-from_any, list_any-from_Contains}
use Rattle.bk_shuffle.specs.Sequence.{Move}
use Rattle.bk_alloc.specs.Blocks.{PartRecord, end_moves}
use Rattle.bk_alloc.specs.Homes.{Gathers}
use Rattle.bk_alloc.specs.Placing.{AreHomes, slot_sources, slots_behind, slots_in, values_in_slots}
use Rattle.bk_alloc.proofs.Firsts.{is_at_number}
use Rattle.bk_alloc.proofs.Growing.{gathers_then}

has_key : (s : BTreeSet ℕ) (v : ℕ) → contains nat_cmp s v ≡ list_any (λ x. v == x) s.keys
has_key s v = λ j. list_any (λ (x : ℕ). is_at_number v x j) s.keys

same_any : (xs ys : List ℕ) (v : ℕ) → list_any (λ x. v == x) xs ≡ list_any (λ x. v == x) ys → Contains xs v → Contains ys v
same_any xs ys v e c = Contains-from_any eqb-true v ys (sym e ∙ list_any-from_Contains nat_eq_equiv v xs c)

pub gathered_homes : (ps : List PartRecord) (ends : List (List Move)) (none some all : BTreeSet ℕ) → ((q : ℕ) → contains nat_cmp none q ≡ false)
    → Gathers none some (flat_map slots_in ps) → Gathers some all (flat_map slot_sources ends) → ends ≡ map (end_moves ps) ps → IsOrdered nat_cmp all
    → AreHomes ps all.keys
gathered_homes ps ends none some all empty inside behind are ordered =
    let sent : flat_map slot_sources ends ≡ flat_map (slots_behind ps) ps = ap (flat_map slot_sources) are ∙ flat_map-map slot_sources (end_moves ps) ps in
    let same : (v : ℕ) → list_any (λ x. v == x) all.keys ≡ list_any (λ x. v == x) (values_in_slots ps) = λ v.
    sym (has_key all v) ∙ (gathers_then none some all (flat_map slots_in ps) (flat_map slot_sources ends) inside behind v
    ∙ (ap (λ b. b || list_any (λ x. v == x) (flat_map slots_in ps ++ flat_map slot_sources ends)) (empty v) ∙ ap (λ ys. list_any (λ x. v == x) (flat_map slots_in ps ++ ys)) sent)) in
    record {
      rising = AllPairs-from_increasing all.keys (IsStrictlyIncreasing-from_sorted all.keys ordered);
      each = λ v. (same_any all.keys (values_in_slots ps) v (same v), same_any (values_in_slots ps) all.keys v (sym (same v)));
    }
