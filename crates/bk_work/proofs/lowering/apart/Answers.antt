use Rattle.std.proofs.Common.{◌≡◌, true}
use Rattle.bk_dec64.specs.Budget.{is_grown}
use Rattle.bk_work.specs.Refused.{grown}
use Rattle.bk_work.specs.Stops.{stop_of}
use Rattle.bk_work.proofs.Steps.{refused_words, stopped}
use Rattle.bk_work.proofs.lowering.apart.Goals as goal

pub returns-clause-apart : goal.returns-clause-apart
returns-clause-apart c = record { room = c.in_ok-decompose_by.ensures.room; apart = c.in_ok-decompose_by.ensures.ok }

pub returns-in_err-decompose_by-clause-cause : goal.returns-in_err-decompose_by-clause-cause
returns-in_err-decompose_by-clause-cause c =
    stopped (λ cause. (is_grown c.args.pkg.now c.args.func ≡ true) × (cause ≡ grown)) c.from_residual.result (stop_of c.in_err-decompose_by.field-0.0) c.from_residual.ensures.1
    (refused_words (is_grown c.args.pkg.now c.args.func ≡ true) c.in_err-decompose_by.field-0.0 c.in_err-decompose_by.ensures.grown)
