-- The members of groups.
use Rattle.std.proofs.Common.{◌≡◌, ℕ, ◌↔◌, Bool, true, false, List, length, Option, Some, arith}
use Rattle.std.specs.List.{slice_get}
use Rattle.std.proofs.lemmas.Option.{slice_get_within}
use Rattle.bk_func.specs.Records.{ValueRecord}
use Rattle.bk_places.proofs.Elements.{at_some}
use Rattle.bk_places.proofs.Filling.{Filled}
use Rattle.bk_places.specs.Order.{AreMembers}
use Rattle.bk_sched.specs.Arranged.{AreListed}

-- the members of which a fact holds
pub listed_of : (vs : List ValueRecord) (n : ℕ) (gs : List (Option ℕ)) (P : ValueRecord → Type 0) (cs : List Bool) (i : ℕ) (es : List (List ℕ)) → length gs ≡ length vs → i ≡ length vs
    → Filled (λ (p : ℕ) (c : Bool). (v : ValueRecord) → slice_get vs p ≡ Some v → (c ≡ true) ↔ P v) false cs i → AreMembers n gs cs (length gs) es → AreListed vs gs P es
listed_of vs n gs P cs i es size all picked m = record {
  each = λ g p. (
    (λ c.
        let (low, at, chosen) = (m.each g p).0 c in
        let (v, ev) = at_some vs p (omega (arith, low, size)) in
        (v, ev, at, (picked.each p (omega (arith, low, size, all)) v ev).0 chosen)),
    (λ (v, ev, at, fact).
        let low = slice_get_within vs p v ev in
        (m.each g p).1 (omega (arith, low, size), at, (picked.each p (omega (arith, low, all)) v ev).1 fact)),
  );
  rising = m.rising;
}
