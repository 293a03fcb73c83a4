use Rattle.std.proofs.Common.{◌∙◌, ◌==◌, ap}
use Rattle.std.specs.Prelude.{count_by}
use Rattle.bk_places.proofs.Elements.{to_contains}
use Rattle.bk_sched.proofs.Agreeing.{form_precedes, no_round, precedes_form}
use Rattle.bk_sched.proofs.Keeping.{counts}
use Rattle.bk_sched.proofs.laws.agrees_with_the_form.Goals as goal

pub returns-clause-order : goal.returns-clause-order
returns-clause-order c s f b u v formed none has = (precedes_form s f formed none b has u v, form_precedes s f formed none b has u v)

pub returns-clause-once : goal.returns-clause-once
returns-clause-once c s f b ids n formed none has (zs, g, e) =
    ap (count_by (λ m. m == n)) e ∙ counts b n b.values zs g (λ v i. no_round s f formed none b has v (to_contains v b.values i))
