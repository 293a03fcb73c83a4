use Rattle.bk_rewrite.specs.Places.{HasNumbers}
use Rattle.bk_rewrite.proofs.Rooted.{TriedAt}
use Rattle.bk_rewrite.proofs.finding.find_at.Given as goal

abbrev pub invariant-loop-place : goal.invariant-loop-place
invariant-loop-place l = HasNumbers l.site.func.now → TriedAt l.site.target l.site.func.now l.rules l.site.value l.places l.place-index
