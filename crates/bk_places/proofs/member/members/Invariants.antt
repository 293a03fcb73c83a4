use Rattle.bk_places.specs.Order.{AreMembers}
use Rattle.bk_places.proofs.member.members.Given as goal

abbrev pub invariant-loop-place : goal.invariant-loop-place
invariant-loop-place l = AreMembers l.count l.groups l.chosen l.place l.members
