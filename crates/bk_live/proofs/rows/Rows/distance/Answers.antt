use Rattle.std.proofs.Common.{◌∙◌, sym, ap, subst, List}
use Rattle.bk_live.specs.declared.rows.LiveValue.{LiveValue}
use Rattle.bk_live.specs.Rows.{IsRising, distance_in}
use Rattle.bk_live.proofs.Finding.{distance_at, distance_none}
use Rattle.bk_live.proofs.rows.Rows.distance.Goals as goal

pub returns-in-Ok : goal.returns-in-Ok
returns-in-Ok c =
    let row = c.row-row.result.now in
    let none : LiveValue = record { value = 0; distance = 0 } in
    sym (distance_at row c.args.value c.in-Ok.index none (subst (λ (us : List LiveValue). IsRising us) (sym c.row-row.ensures) c.requires) c.in-Ok.ensures.found)
    ∙ ap (λ us. distance_in us c.args.value) c.row-row.ensures

pub returns-in-Err : goal.returns-in-Err
returns-in-Err c = sym (distance_none c.row-row.result.now c.args.value c.in-Err.ensures.absent) ∙ ap (λ row. distance_in row c.args.value) c.row-row.ensures
