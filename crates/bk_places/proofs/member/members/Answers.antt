use Rattle.std.proofs.Common.{◌≡◌, ◌+◌, sym, subst, ℕ, List, length, arith}
use Rattle.bk_places.specs.Order.{AreMembers}
use Rattle.bk_places.proofs.Grouping.{members_none, members_more}
use Rattle.bk_places.proofs.member.members.Goals as goal

pub loop-place-init : goal.loop-place-init
loop-place-init c = members_none c.args.count c.args.groups.now c.args.chosen.now c.in_ok-members.members c.in_ok-members.ensures

pub loop-place-preserved : goal.loop-place-preserved
loop-place-preserved c =
    let i = c.loop-place.place in
    subst (λ (es : List (List ℕ)). AreMembers c.args.count c.args.groups.now c.args.chosen.now (i + 1) es) (sym c.in_ok-add_from.ensures)
    (members_more c.args.count c.args.groups.now c.args.chosen.now i c.loop-place.members c.chosen_group-group.result c.requires c.loop-place.invariant c.chosen_group-group.ensures)

pub returns : goal.returns
returns c =
    let end : c.loop-place.place ≡ length c.args.groups.now = omega arith in
    subst (λ (n : ℕ). AreMembers c.args.count c.args.groups.now c.args.chosen.now n c.loop-place.members) end c.loop-place.invariant
