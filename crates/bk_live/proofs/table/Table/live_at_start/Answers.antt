use Rattle.std.proofs.Common.{◌≡◌, ◌∙◌, sym, ap, subst, ℕ, List, [], get_or}
use Rattle.std.proofs.lemmas.Option.{none-some, same_Some, slice_get_within}
use Rattle.bk_live.specs.declared.rows.LiveValue.{LiveValue}
use Rattle.bk_live.specs.Homes.{place}
use Rattle.bk_live.specs.Table.{IsLiveRow}
use Rattle.bk_live.proofs.Tabled.{row_is}
use Rattle.bk_live.proofs.Using.{place_is}
use Rattle.bk_live.proofs.table.Table.live_at_start.Goals as goal

pub returns-in-Some : goal.returns-in-Some
returns-in-Some c = λ f os i b h at id.
    let p = place c.args.self.now.places in
    let same : i ≡ c.in-Some.place = same_Some i c.in-Some.place (sym (place_is f os p h.given h.places i b at) ∙ (ap p id ∙ (sym c.find.ensures ∙ c.in-Some.is))) in
    subst (λ (row : List LiveValue). IsLiveRow f os i row) (sym c.row.ensures)
    (subst (λ (q : ℕ). IsLiveRow f os i (get_or c.args.self.now.live q [])) same (row_is h i (slice_get_within f.blocks i b at)))

pub returns-in-None : goal.returns-in-None
returns-in-None c = λ f os i b h at id.
    let p = place c.args.self.now.places in
    absurd (none-some i (sym (sym (place_is f os p h.given h.places i b at) ∙ (ap p id ∙ (sym c.find.ensures ∙ c.in-None.is)))))
