use Rattle.bk_form.proofs.Grouping.{GroupedUpTo}
use Rattle.bk_form.proofs.groups.groups.Given as goal

abbrev pub invariant-loop-place : goal.invariant-loop-place
invariant-loop-place l = GroupedUpTo l.keys l.place l.firsts l.groups.items
