use Rattle.std.proofs.Common.{◌≡◌, ◌<◌, ◌∙◌, ap, refl, subst, ℕ}
use Rattle.bk_calls.specs.Frame.{need}
use Rattle.bk_func.specs.Limits.{most_frame}
use Rattle.bk_func.specs.Records.{FuncRecord, PlacedRecord}
use Rattle.bk_work.specs.declared.refusals.Cause.{Cause}
use Rattle.bk_work.specs.declared.refusals.Cause.TheVariants as because
use Rattle.bk_work.specs.Stops.{IfRefused, frame_stop}
use Rattle.bk_work.proofs.Steps.{refused_frame, stopped}
use Rattle.bk_work.proofs.framing.frame.Goals as goal

pub returns-in_err-frame_of-clause-cause : goal.returns-in_err-frame_of-clause-cause
returns-in_err-frame_of-clause-cause c =
    let t = c.args.target in
    let e = c.in_err-frame_of.field-0.0 in
    let inside = need t c.placed.inside.out c.placed.inside.slots c.func.inside.sig in
    let bytes = need t c.args.placed.now.out c.args.placed.now.slots c.args.func.now.sig in
    let same : inside ≡ bytes =
    ap (λ (p : PlacedRecord). need t p.out p.slots c.func.inside.sig) c.placed.view_is
    ∙ ap (λ (f : FuncRecord). need t c.args.placed.now.out c.args.placed.now.slots f.sig) c.func.view_is in
    stopped (λ (cause : Cause). (cause ≡ because.Frame bytes) × (most_frame < bytes)) c.from_residual.result (frame_stop e) c.from_residual.ensures.1
    (subst (λ (n : ℕ). IfRefused (frame_stop e) (λ (cause : Cause). (cause ≡ because.Frame n) × (most_frame < n))) same
    (refused_frame e inside c.in_err-frame_of.ensures.refused (c.in_err-frame_of.ensures.limit.0 refl)))
