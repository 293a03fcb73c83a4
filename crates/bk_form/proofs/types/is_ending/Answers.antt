use Rattle.std.proofs.Common.{◌∙◌, ap, inr, ⊎_elim}
use Rattle.bk_form.proofs.types.is_ending.Goals as goal

pub returns-then-has_no_results : goal.returns-then-has_no_results
returns-then-has_no_results c =
    let family = ap (λ v. v.op.family) c.control.view_is in (
      (λ t. inr (inr (inr (c.has_no_results.ensures.0 c.if-has_no_results.true, c.is_memory.ensures.0 t)))),
      (λ h. ⊎_elim
          (λ e. absurd (c.in_default.not-MakeResult (family ∙ e)))
          (λ k. ⊎_elim (λ e. absurd (c.in_default.not-RetWord (family ∙ e))) (λ l. ⊎_elim (λ e. absurd (c.in_default.not-RetRegs (family ∙ e))) (λ (none, memory). c.is_memory.ensures.1 memory) l) k)
          h),
    )
