use Rattle.std.proofs.Common.{◌≡◌, ◌∙◌, sym, refl, ap, subst, ℕ, List, Some}
use Rattle.std.specs.List.{Contains}
use Rattle.std.proofs.lemmas.Option.{none-some, same_Some}
use Rattle.bk_live.specs.declared.homes.Spot.{Spot}
use Rattle.bk_live.specs.declared.uses.Use.{Use}
use Rattle.bk_live.specs.Adds.{Adds}
use Rattle.bk_live.proofs.Adding.{adds_none, adds_push}
use Rattle.bk_live.proofs.uses.push_at.Goals as goal

pub returns-in_default : goal.returns-in_default
returns-in_default c =
    adds_none (Contains c.args.uses.now.items) (λ (u : Use). (c.args.spot ≡ Some u.spot) × (u.value ≡ c.args.value)) (λ u (s, t). none-some u.spot (sym c.in_default.is ∙ s))

pub returns : goal.returns
returns c =
    let s = c.in-Some.spot in
    let it : Use = record { value = c.args.value; spot = s } in
    subst (λ (us : List Use). Adds (Contains c.args.uses.now.items) (λ (u : Use). (c.args.spot ≡ Some u.spot) × (u.value ≡ c.args.value)) (Contains us)) (sym c.in_ok-push.ensures.items)
    (adds_push c.args.uses.now.items it (λ (u : Use). (c.args.spot ≡ Some u.spot) × (u.value ≡ c.args.value)) (λ u. (
      (λ (e, t). built u (same_Some s u.spot (sym c.in-Some.is ∙ e)) t),
      (λ same. (c.in-Some.is ∙ ap (λ (w : Use). Some w.spot) same, sym (ap (λ (w : Use). w.value) same))),
    )))
  where
    built : (u : Use) → c.in-Some.spot ≡ u.spot → u.value ≡ c.args.value → record { value = c.args.value; spot = c.in-Some.spot } ≡ u
    built u e t = subst (λ (v : ℕ). record { value = v; spot = c.in-Some.spot } ≡ u) t (subst (λ (w : Spot). record { value = u.value; spot = w } ≡ u) (sym e) refl)
