use Rattle.std.proofs.Common.{◌∙◌, ◌==◌, ap}
use Rattle.std.specs.Prelude.{count_by}
use Rattle.bk_places.proofs.Elements.{to_contains}
use Rattle.bk_sched.proofs.Keeping.{counts}
use Rattle.bk_sched.proofs.laws.does_each_value_once.Goals as goal

pub returns : goal.returns
returns c b ids n alone (zs, g, e) = ap (count_by (λ m. m == n)) e ∙ counts b n b.values zs g (λ v i. alone v (to_contains v b.values i))
