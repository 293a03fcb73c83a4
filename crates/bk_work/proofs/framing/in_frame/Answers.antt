use Rattle.std.proofs.Common.{◌≡◌, ℕ, refl}
use Rattle.bk_work.specs.declared.refusals.Cause.TheVariants as because
use Rattle.bk_work.specs.Framed.{IsTooDeep}
use Rattle.bk_work.proofs.Steps.{stopped, too_deep}
use Rattle.bk_work.proofs.framing.in_frame.Goals as goal

pub returns-clause-framed : goal.returns-clause-framed
returns-clause-framed c = record {
  split = c.in_ok-func.ensures;
  placed = c.in_ok-placed.ensures;
  frame = c.in_ok-frame.ensures.bytes;
  within = c.in_ok-frame.ensures.within refl;
}

pub returns-in_err-frame-clause-cause : goal.returns-in_err-frame-clause-cause
returns-in_err-frame-clause-cause c =
    stopped (λ cause. (bytes : ℕ) × IsTooDeep c.args.pkg.now c.args.target c.args.func.now bytes × (cause ≡ because.Frame bytes)) c.from_residual-in_err-frame.result
    c.in_err-frame.field-0.0 c.from_residual-in_err-frame.ensures.1
    (too_deep c.args.pkg.now c.args.target c.args.func.now c.in_ok-func.func c.in_ok-placed.placed c.in_err-frame.field-0.0 c.in_ok-func.ensures c.in_ok-placed.ensures
    c.in_err-frame.ensures.cause)
