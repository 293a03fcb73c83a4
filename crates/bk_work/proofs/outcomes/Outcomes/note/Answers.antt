use Rattle.std.proofs.Common.{subst, sym, List, ◌++◌, ◌∷◌, []}
use Rattle.std.proofs.lemmas.Result.{IfErr-at_err, IfOk-at_ok}
use Rattle.bk_work.specs.declared.refusals.Stop.{Stop}
use Rattle.bk_work.specs.Framed.{FramedRecord, IsMade}
use Rattle.bk_work.specs.Package.{AreOutcomes}
use Rattle.bk_work.specs.Refused.{IsRefused}
use Rattle.bk_work.specs.Stops.{IfRefused}
use Rattle.bk_work.proofs.Turns.{one_made}
use Rattle.bk_work.proofs.outcomes.Outcomes.note.Goals as goal

pub returns-in_ok-put-in-Ok : goal.returns-in_ok-put-in-Ok
returns-in_ok-put-in-Ok c = λ pkg t rules fs f before at good bad.
    subst (λ (its : List FramedRecord). AreOutcomes pkg t rules 0 (fs ++ f ∷ []) its c.args.self.now.refusals.items) (sym c.in_ok-put-in-Ok.ensures)
    (one_made pkg t rules 0 fs c.args.self.now.framed.items c.args.self.now.refusals.items f c.in-Ok.it before (IfOk-at_ok (IsMade pkg t rules f) c.in-Ok.is good))

pub returns-in-Err : goal.returns-in-Err
returns-in-Err c = λ pkg t rules fs f before at good bad.
    c.note_stop.ensures pkg t rules fs f before at (IfErr-at_err (λ (stop : Stop). IfRefused stop (IsRefused pkg t rules f)) c.in-Err.is bad)
