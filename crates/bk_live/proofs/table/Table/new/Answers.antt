use Rattle.std.proofs.Common.{◌≡◌, ◌∙◌, ◌↔◌, Contains, sym, ap, subst, ℕ, List, map}
use Rattle.bk_live.specs.declared.uses.Use.{Use}
use Rattle.bk_live.specs.Edges.{onward}
use Rattle.bk_live.specs.Homes.{home, place}
use Rattle.bk_live.specs.Prepared.{IsPrepared}
use Rattle.bk_live.specs.Table.{use_key}
use Rattle.bk_live.specs.Uses.{AreUses, use_at}
use Rattle.bk_live.proofs.Using.{lead_on, used_to, used_from}
use Rattle.bk_live.proofs.table.Table.new.Goals as goal

pub returns : goal.returns
returns c = λ given.
    let f = c.args.func.now in
    let os = map (λ o. o.items) c.args.orders.now in
    let h = home c.in_ok-scope.scope.homes in
    let p = place c.in_ok-scope.scope.places in
    let us = c.in_ok-uses.uses.items in
    let places = c.in_ok-scope.ensures.places in
    let orders : map (λ o. o.items) c.in_ok-scope.scope.orders.now ≡ os = ap (map (λ o. o.items)) c.in_ok-scope.ensures.orders in
    let uses : AreUses os h p f.blocks us = subst (λ (o : List (List ℕ)). AreUses o h p f.blocks us) orders c.in_ok-uses.ensures in
    let r : IsPrepared f os h p us = record { given = given; homes = c.in_ok-scope.ensures.homes; places = places; uses = uses } in
    let set = c.in_ok-set_of.ensures in
    record {
      given = given;
      homes = c.in_ok-scope.ensures.homes;
      places = places;
      edges = lead_on f os p c.in_ok-onwards.field-0 given places (c.in_ok-onwards.ensures ∙ ap (map (onward p)) (c.deref-2.ensures.value ∙ ap (λ f. f.blocks) c.func.view_is));
      counts = c.in_ok-counts.ensures;
      ordered = set.ordered;
      uses = λ n i k.
          let both = subst (λ (x : List Use). Contains c.in_ok-set_of.field-0.keys (use_key n i k) ↔ Contains x (use_at n i k)) c.deref-3.ensures.value (set.uses n i k) in
          ((λ m. used_to r (use_at n i k) (both.0 m)), (λ used. both.1 (used_from r n i k used)));
      live = c.in_ok-live.ensures.live os given c.in_ok-scope.ensures.homes places c.in_ok-counts.ensures (subst (λ (x : List Use). AreUses os h p f.blocks x) (sym c.deref.ensures.value) uses);
    }
