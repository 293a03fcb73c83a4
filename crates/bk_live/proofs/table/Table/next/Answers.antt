use Rattle.std.proofs.Common.{◌∙◌, sym}
use Rattle.bk_live.proofs.Tabled.{next_nowhere, next_there, next_told}
use Rattle.bk_live.proofs.table.Table.next.Goals as goal

pub returns-in_err-place-clause-next : goal.returns-in_err-place-clause-next
returns-in_err-place-clause-next c =
    next_told c.args.self.now c.args.block c.args.after c.args.value c.from_residual.result
    (c.from_residual.ensures ∙ next_nowhere c.args.self.now c.args.block c.args.after c.args.value (sym c.find.ensures ∙ c.in_err-place.was))

pub returns-clause-next : goal.returns-clause-next
returns-clause-next c =
    next_told c.args.self.now c.args.block c.args.after c.args.value c.next_at.result
    (c.next_at.ensures ∙ next_there c.args.self.now c.args.block c.args.after c.args.value c.in_ok-place.place (sym c.find.ensures ∙ c.in_ok-place.was))
