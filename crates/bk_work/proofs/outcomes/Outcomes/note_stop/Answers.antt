use Rattle.std.proofs.Common.{arith, subst, sym, List, ◌++◌, ◌∷◌, []}
use Rattle.bk_work.specs.declared.refusals.Refusal.{Refusal}
use Rattle.bk_work.specs.declared.refusals.Stop.{Stop}
use Rattle.bk_work.specs.Package.{AreOutcomes}
use Rattle.bk_work.specs.Refused.{IsRefused}
use Rattle.bk_work.specs.Stops.{IfRefused}
use Rattle.bk_work.proofs.Turns.{one_refused}
use Rattle.bk_work.proofs.outcomes.Outcomes.note_stop.Goals as goal

pub returns-in_ok-put_refusal-in-Refused : goal.returns-in_ok-put_refusal-in-Refused
returns-in_ok-put_refusal-in-Refused c = λ pkg t rules fs f before at bad.
    subst (λ (rs : List Refusal). AreOutcomes pkg t rules 0 (fs ++ f ∷ []) c.args.self.now.framed.items rs) (sym c.in_ok-put_refusal-in-Refused.ensures)
    (one_refused pkg t rules 0 c.args.place fs c.args.self.now.framed.items c.args.self.now.refusals.items f c.in-Refused.cause before (omega (arith, at))
    (subst (λ (stop : Stop). IfRefused stop (IsRefused pkg t rules f)) c.in-Refused.is bad))
