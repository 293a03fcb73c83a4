use Rattle.std.proofs.Common.{◌∙◌, sym, refl, ap, map}
use Rattle.bk_sched.proofs.Keeping.{one}
use Rattle.bk_sched.proofs.laws.has_one_schedule.Goals as goal

pub returns : goal.returns
returns c b ids others (zs, g, e) (ws, h, f) = e ∙ (ap (map (λ v. v.id)) (one b b.values zs g b.values ws h refl) ∙ sym f)
