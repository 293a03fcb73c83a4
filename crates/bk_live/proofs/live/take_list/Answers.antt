use Rattle.std.proofs.Common.{◌∙◌, sym, ap}
use Rattle.std.proofs.lemmas.Bool.{ne_eqb}
use Rattle.bk_live.specs.Prepared.{listed_at}
use Rattle.bk_live.proofs.Homing.{is_at_number}
use Rattle.bk_live.proofs.live.take_list.Goals as goal

pub returns-in-Some-clause-list : goal.returns-in-Some-clause-list
returns-in-Some-clause-list c = ap listed_at (sym c.in-Some.is ∙ c.remove.ensures.value)

pub returns-in-None-clause-list : goal.returns-in-None-clause-list
returns-in-None-clause-list c = c.new.ensures.items ∙ ap listed_at (sym c.in-None.is ∙ c.remove.ensures.value)

pub returns-in-Some-clause-others : goal.returns-in-Some-clause-others
returns-in-Some-clause-others c = λ n apart. c.remove.ensures.updates.2 n (is_at_number c.args.number n ∙ ne_eqb c.args.number n apart)

pub returns-in-None-clause-others : goal.returns-in-None-clause-others
returns-in-None-clause-others c = λ n apart. c.remove.ensures.updates.2 n (is_at_number c.args.number n ∙ ne_eqb c.args.number n apart)
