use Rattle.std.proofs.Common.{◌≡◌, ◌∙◌, sym, refl, ap, subst, ℕ, List, Some}
use Rattle.std.specs.List.{Contains}
use Rattle.std.proofs.lemmas.Option.{none-some, same_Some}
use Rattle.bk_live.specs.declared.homes.Spot.{Spot}
use Rattle.bk_live.specs.declared.uses.Use.{Use}
use Rattle.bk_live.specs.Adds.{Adds}
use Rattle.bk_live.proofs.Adding.{adds_none, adds_push}
use Rattle.bk_live.proofs.uses.push_control.Goals as goal

pub returns-in_default : goal.returns-in_default
returns-in_default c =
    adds_none (Contains c.args.uses.now.items) (λ (u : Use). (c.args.control ≡ Some u.value) × (c.args.spot ≡ u.spot)) (λ u (s, t). none-some u.value (sym c.in_default.is ∙ s))

pub returns : goal.returns
returns c =
    let v = c.in-Some.value in
    let it : Use = record { value = v; spot = c.args.spot } in
    subst (λ (us : List Use). Adds (Contains c.args.uses.now.items) (λ (u : Use). (c.args.control ≡ Some u.value) × (c.args.spot ≡ u.spot)) (Contains us)) (sym c.in_ok-push.ensures.items)
    (adds_push c.args.uses.now.items it (λ (u : Use). (c.args.control ≡ Some u.value) × (c.args.spot ≡ u.spot)) (λ u. (
      (λ (e, t). built u (same_Some v u.value (sym c.in-Some.is ∙ e)) t),
      (λ same. (c.in-Some.is ∙ ap (λ (w : Use). Some w.value) same, ap (λ (w : Use). w.spot) same)),
    )))
  where
    built : (u : Use) → c.in-Some.value ≡ u.value → c.args.spot ≡ u.spot → record { value = c.in-Some.value; spot = c.args.spot } ≡ u
    built u e t = subst (λ (v : ℕ). record { value = v; spot = c.args.spot } ≡ u) (sym e) (subst (λ (w : Spot). record { value = u.value; spot = w } ≡ u) (sym t) refl)
