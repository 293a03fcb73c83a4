use Rattle.std.proofs.Common.{◌≡◌, ℕ, ◌<◌, Some}
use Rattle.std.specs.Prelude.{slice_get}
use Rattle.bk_ops.specs.declared.table.Op.{Op}
use Rattle.bk_rule.specs.declared.trees.Rule.{Rule}
use Rattle.bk_rewrite.specs.Roots.{root_op}
use Rattle.bk_rewrite.proofs.roots.have_roots.Given as goal

abbrev pub invariant-loop-rule : goal.invariant-loop-rule
invariant-loop-rule l = (k : ℕ) (r : Rule) → k < l.rule-index → slice_get l.rules k ≡ Some r → (o : Op) × (root_op r.left ≡ Some o)
