use Rattle.std.proofs.Common.{◌≡◌, ◌∙◌, refl, ap, subst, ℕ, List, length, map}
use Rattle.std.specs.BTreeMap.{get}
use Rattle.std.specs.Map.{keys_of}
use Rattle.std.specs.Ordering.{nat_cmp}
use Rattle.bk_func.specs.Records.{BlockRecord}
use Rattle.bk_live.specs.Counts.{length_of}
use Rattle.bk_live.specs.Edges.{AreBackward}
use Rattle.bk_live.specs.Homes.{home, place}
use Rattle.bk_live.specs.Prepared.{FoundFor, IsPrepared, listed_at}
use Rattle.bk_live.specs.Rows.{HasRows}
use Rattle.bk_live.proofs.Entering.{has_key, rows_live}
use Rattle.bk_live.proofs.Using.{lead_back}
use Rattle.bk_live.proofs.live.live_rows.Goals as goal

pub returns-clause-live : goal.returns-clause-live
returns-clause-live c = λ os given homes places counts uses.
    let f = c.args.func.now in
    let h = home c.args.scope.now.homes in
    let p = place c.args.scope.now.places in
    let m = c.in_ok-starts.starts in
    let es = c.in_ok-edges.edges in
    let us = c.args.uses.now in
    let prepared : IsPrepared f os h p us = record { given = given; homes = homes; places = places; uses = uses } in
    let back = lead_back f os p es given places (subst (λ (bs : List BlockRecord). AreBackward bs p es) (c.deref.ensures.value ∙ ap (λ f. f.blocks) c.func.view_is) c.in_ok-edges.ensures) in
    let lists = λ (n : ℕ). listed_at (get nat_cmp m n) in
    let ws = c.deref-2.result.now in
    let lengths : ws ≡ map length_of c.args.counts.now = c.deref-2.ensures.value ∙ c.in_ok-lengths.ensures in
    let has : HasRows (λ n. FoundFor h es ws (lists n) n) (length f.blocks) (keys_of m.entries) c.in_ok-rows.rows =
    subst (λ (k : ℕ). HasRows (λ n. FoundFor h es ws (lists n) n) k (keys_of m.entries) c.in_ok-rows.rows) back.size c.in_ok-rows.ensures in
    rows_live prepared c.args.counts.now counts es back ws lengths lists c.in_ok-starts.ensures (keys_of m.entries) (λ n s k. has_key m.entries n listed_at s refl k) c.in_ok-rows.rows has
