use Rattle.std.proofs.Common.{◌≡◌, ℕ, ◌<◌, Some}
use Rattle.std.specs.Prelude.{slice_get}
use Rattle.bk_rule.specs.declared.trees.Rule.{Rule}
use Rattle.bk_rewrite.specs.First.{IsNumbered, NeverMatches}
use Rattle.bk_rewrite.specs.Places.{HasNumbers}
use Rattle.bk_rewrite.proofs.finding.find_among.Given as goal

abbrev pub invariant-loop-place : goal.invariant-loop-place
invariant-loop-place l =
    HasNumbers l.site.func.now → (k : ℕ) (r : Rule) → k < l.place → slice_get l.rules k ≡ Some r → IsNumbered 0 r.left → NeverMatches l.site.target l.site.func.now r l.site.value
