use Rattle.std.proofs.Common.{sym, ◌∙◌, subst}
use Rattle.bk_core.specs.Rule.{Sight, cells_of}
use Rattle.bk_core.specs.Events.{HasWalked}
use Rattle.bk_share.specs.Passes.{view}
use Rattle.bk_share.proofs.Walk.{saw_none}
use Rattle.bk_share.proofs.shares.Share.visit.Goals as goal

pub take-requires-clause-way : goal.take-requires-clause-way
take-requires-clause-way c =
    subst (λ (v : Sight). HasWalked v.known (cells_of c.args.self.now.table.shared.key.announced c.args.area) c.args.area c.args.cell c.args.key)
    (sym (c.look-found.ensures.saw ∙ saw_none (view c.args.pass.now) c.args.area c.args.cell c.look-found.result c.if-found-ne0.false)) c.requires.way
