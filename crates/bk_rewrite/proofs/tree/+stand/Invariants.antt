use Rattle.std.proofs.Common.{◌≡◌, ◌+◌, drop}
use Rattle.bk_rewrite.specs.Places.{HasNumbers}
use Rattle.bk_rewrite.specs.Trials.{Goes, sum_orders}
use Rattle.bk_rewrite.proofs.tree.+stand.Given as goal

abbrev pub invariant-stand_each-loop-place : goal.invariant-stand_each-loop-place
invariant-stand_each-loop-place l = record {
  goes : HasNumbers l.at.func.now → Goes l.at.func.now l.at.choices.now l.patterns l.ids l.place l.initial.trail.binds.items l.trail.binds.items l.initial.trail.used l.trail.used;
  used : l.trail.used + sum_orders (drop l.place l.patterns) ≡ l.initial.trail.used + sum_orders l.patterns;
}
