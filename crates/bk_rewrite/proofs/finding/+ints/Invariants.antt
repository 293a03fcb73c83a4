use Rattle.std.proofs.Common.{ℕ, ◌<◌, get_or}
use Rattle.bk_rule.specs.declared.trees.Build.{Build}
use Rattle.bk_rule.specs.Bindings.{bound_env}
use Rattle.bk_rule.specs.Sound.{HasInts}
use Rattle.bk_rewrite.proofs.finding.+ints.Given as goal

abbrev pub invariant-have_ints-loop-build : goal.invariant-have_ints-loop-build
invariant-have_ints-loop-build l = (k : ℕ) (d : Build) → k < l.build-index → HasInts l.target (bound_env l.func l.binds) (get_or l.builds k d)
