use Rattle.std.proofs.Common.{◌∙◌, ap, length}
use Rattle.std.specs.List.{list_all}
use Rattle.std.specs.Option.{is_some}
use Rattle.bk_rule.proofs.Opened.{opened}
use Rattle.bk_rule_text.specs.Stands.{may_stand, build_stands}
use Rattle.bk_rule_text.proofs.Standing.{standing_build, both_hold, one_not}
use Rattle.bk_rule_text.proofs.stands.node.+build.Goals as goal

pub build_stands-returns-then-may_stand : goal.build_stands-returns-then-may_stand
unfolding opened
build_stands-returns-then-may_stand t c =
    let n = c.in-Node in
    both_hold c.may_stand.result c.builds_stand.result (may_stand n.op (length n.args) (is_some n.int) (is_some n.aux)) (list_all build_stands n.args) (build_stands c.args.build.now)
    c.if-may_stand.true
    (c.may_stand.ensures ∙ ap (λ k. may_stand n.op k c.is_some.result c.is_some-in-Node.result) c.len.ensures ∙ ap (λ b. may_stand n.op (length n.args) b c.is_some-in-Node.result) c.is_some.ensures ∙ ap (may_stand n.op (length n.args) (is_some n.int)) c.is_some-in-Node.ensures)
    (c.builds_stand.ensures ∙ ap (list_all build_stands) c.as_slice.ensures)
    (ap build_stands n.is ∙ standing_build n.op n.ty n.int n.aux n.args)

pub build_stands-returns-else-may_stand : goal.build_stands-returns-else-may_stand
unfolding opened
build_stands-returns-else-may_stand t c =
    let n = c.in-Node in
    one_not c.may_stand.result (may_stand n.op (length n.args) (is_some n.int) (is_some n.aux)) (list_all build_stands n.args) (build_stands c.args.build.now)
    c.if-may_stand.false
    (c.may_stand.ensures ∙ ap (λ k. may_stand n.op k c.is_some.result c.is_some-in-Node.result) c.len.ensures ∙ ap (λ b. may_stand n.op (length n.args) b c.is_some-in-Node.result) c.is_some.ensures ∙ ap (may_stand n.op (length n.args) (is_some n.int)) c.is_some-in-Node.ensures)
    (ap build_stands n.is ∙ standing_build n.op n.ty n.int n.aux n.args)
