use Rattle.bk_rule.specs.Bindings.{bound_env}
use Rattle.bk_rule.proofs.Opened.{opened}
use Rattle.bk_rewrite.proofs.Found.{node_has, has_node}
use Rattle.bk_rewrite.proofs.finding.+ints.Goals as goal

pub has_ints-returns-then-has_int-clause-has : goal.has_ints-returns-then-has_int-clause-has
unfolding opened
has_ints-returns-then-has_int-clause-has t c = λ q.
    let n = c.in-Node in
    node_has c.args.target (bound_env c.args.func.now c.args.binds.now) c.args.build.now n.op n.ty n.int n.aux n.args c.as_slice.result.now n.is c.as_slice.ensures
    (c.has_int.ensures.has c.if-has_int.true) (c.have_ints.ensures.has q)

pub has_ints-returns-then-has_int-clause-lacks : goal.has_ints-returns-then-has_int-clause-lacks
unfolding opened
has_ints-returns-then-has_int-clause-lacks t c = λ q h.
    let n = c.in-Node in
    let (a, k) = has_node c.args.target (bound_env c.args.func.now c.args.binds.now) c.args.build.now n.op n.ty n.int n.aux n.args c.as_slice.result.now n.is c.as_slice.ensures h in
    c.have_ints.ensures.lacks q k
