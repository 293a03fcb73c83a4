use Rattle.std.proofs.Common.{◌≡◌, ◌∙◌, sym, ap, ◌<◌, ◌≤◌, ◌∷◌, ◌++◌, [], get_or, Some, List, length, arith}
use Rattle.std.proofs.lemmas.List.{length-map, set_past}
use Rattle.bk_live.specs.declared.rows.LiveValue.{LiveValue}
use Rattle.bk_live.specs.Rows.{live_value, with_live}
use Rattle.bk_live.proofs.Edging.{edge_more}
use Rattle.bk_live.proofs.rows.Rows.add.Goals as goal

pub returns-then-count-place : goal.returns-then-count-place
returns-then-count-place c =
    let rows = c.args.self.now in
    let past : length c.self.inside.rows.items ≤ c.args.place = omega arith in
    let same : length rows ≡ length c.self.inside.rows.items = ap length (sym c.self.view_is) ∙ length-map c.self.inside.rows.items _ in
    let over : length rows ≤ c.args.place = omega arith in
    let row : List LiveValue = get_or rows c.args.place [] ++ live_value c.args.value c.in-Some.distance ∷ [] in
    sym (set_past rows c.args.place row over) ∙ sym (ap (with_live rows c.args.place c.args.value) c.in-Some.is)

pub returns : goal.returns
returns c =
    let rows = c.args.self.now in
    let within : c.args.place < length c.self.inside.rows.items = omega arith in
    edge_more _ c.self.inside.rows.items c.args.place (live_value c.args.value c.in_ok-distance.distance) c.index_mut.result.now c.push.new.self rows c.self.view_is within c.index_mut.ensures.value
    c.in_ok-push.ensures.items
    ∙ (ap (λ d. with_live rows c.args.place c.args.value (Some d)) c.in_ok-distance.ensures ∙ sym (ap (with_live rows c.args.place c.args.value) c.in-Some.is))
