use Rattle.std.proofs.Common.{◌∙◌, sym, refl, Some, None}
use Rattle.bk_graph.proofs.Following.{next_number, ready_place}
use Rattle.bk_graph.proofs.order.Order.next.Goals as goal

pub returns-in-Some-clause-number : goal.returns-in-Some-clause-number
returns-in-Some-clause-number c = (next_number c.args.self.now c.requires (Some c.in-Some.next) (ready_place c.args.self.now) (sym c.in-Some.is ∙ c.next_successor.ensures) refl).0

pub returns-in-Some-clause-within : goal.returns-in-Some-clause-within
returns-in-Some-clause-within c = (next_number c.args.self.now c.requires (Some c.in-Some.next) (ready_place c.args.self.now) (sym c.in-Some.is ∙ c.next_successor.ensures) refl).1

pub returns-in-None-clause-number : goal.returns-in-None-clause-number
returns-in-None-clause-number c = (next_number c.args.self.now c.requires None c.first_ready.result (sym c.in-None.is ∙ c.next_successor.ensures) c.first_ready.ensures).0
