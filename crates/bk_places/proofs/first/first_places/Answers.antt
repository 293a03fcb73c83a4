use Rattle.std.proofs.Common.{◌≡◌, ℕ, List, ap, ◌∙◌, refl, arith, length, ◌<◌, Option, Some, None, get_or, true}
use Rattle.std.specs.Prelude.{◌==◌, position, if◌then◌else◌}
use Rattle.std.specs.Ordering.{nat_cmp}
use Rattle.std.specs.Option.{is_some}
use Rattle.std.specs.BTreeMap.{get, is_at}
use Rattle.std.specs.Map.{lookup}
use Rattle.std.specs.List.{position_from}
use Rattle.std.proofs.lemmas.Grind.{common_steps}
use Rattle.bk_func.specs.Meaning.{or_else}
use Rattle.bk_places.proofs.Firsts.{place_more, put_new, put_old, position-from}
use Rattle.bk_places.proofs.first.first_places.Goals as goal
use Rattle.bk_places.proofs.first.first_places.Goals.{then-is_none+in_ok-insert, else-is_none}

known : (o : Option ℕ) → is_some o ≡ true → (p : ℕ) × (o ≡ Some p)
known None e = absurd cc
known (Some p) e = (p, refl)

pub loop-place-init : goal.loop-place-init
loop-place-init c = λ q.
    ap (λ (es : List (ℕ × ℕ)). or_else (lookup (is_at (nat_cmp q)) es) (position_from (λ x. x == q) 0 c.args.numbers.now)) c.new-places.ensures.empty ∙ position-from q c.args.numbers.now

pub loop-place-preserved : goal.loop-place-preserved
loop-place-preserved c = λ q.
    let h : c.loop-place.place < length c.args.numbers.now = omega arith in
    elim c.if-is_none.branch [
      | then-is_none+in_ok-insert w ↦
          let none : get nat_cmp c.loop-place.places (get_or c.args.numbers.now c.loop-place.place 0) ≡ None = grind (arith, common_steps, c.is_none.ensures, c.get.ensures.value, w.if-is_none.true) in
          let put : get nat_cmp c.if-is_none.places q ≡ or_else (get nat_cmp c.loop-place.places q) (if get_or c.args.numbers.now c.loop-place.place 0 == q then Some c.loop-place.place else None) =
          ap (λ m. get nat_cmp m q) w.places-is
          ∙ put_new (get_or c.args.numbers.now c.loop-place.place 0) q c.loop-place.place (get nat_cmp c.loop-place.places) (get nat_cmp w.insert.new.self) none (w.in_ok-insert.ensures.updates.0 q) in
          place_more q (get_or c.args.numbers.now c.loop-place.place 0) c.loop-place.place c.args.numbers.now (get nat_cmp c.loop-place.places q) (get nat_cmp c.if-is_none.places q) (position (λ x. x == q) c.args.numbers.now) h refl put (c.loop-place.invariant q)
      | else-is_none w ↦
          let some : is_some (get nat_cmp c.loop-place.places (get_or c.args.numbers.now c.loop-place.place 0)) ≡ true = grind (arith, common_steps, c.is_none.ensures, c.get.ensures.value, w.if-is_none.false) in
          let k = known (get nat_cmp c.loop-place.places (get_or c.args.numbers.now c.loop-place.place 0)) some in
          let put : get nat_cmp c.if-is_none.places q ≡ or_else (get nat_cmp c.loop-place.places q) (if get_or c.args.numbers.now c.loop-place.place 0 == q then Some c.loop-place.place else None) =
          ap (λ m. get nat_cmp m q) w.places-is ∙ put_old (get_or c.args.numbers.now c.loop-place.place 0) q c.loop-place.place k.0 (get nat_cmp c.loop-place.places) k.1 in
          place_more q (get_or c.args.numbers.now c.loop-place.place 0) c.loop-place.place c.args.numbers.now (get nat_cmp c.loop-place.places q) (get nat_cmp c.if-is_none.places q) (position (λ x. x == q) c.args.numbers.now) h refl put (c.loop-place.invariant q)
    ]
