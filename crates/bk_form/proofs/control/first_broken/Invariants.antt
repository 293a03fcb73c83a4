use Rattle.bk_func.specs.Form.{Holds}
use Rattle.bk_func.specs.Form.Parts.{KeepsControl}
use Rattle.bk_form.proofs.Finding.{HoldsUpTo}
use Rattle.bk_form.proofs.control.first_broken.Given as goal

abbrev pub invariant-loop-place : goal.invariant-loop-place
invariant-loop-place l = HoldsUpTo (Holds (KeepsControl l.func) (λ b v. Unit {0})) l.func.blocks l.place
