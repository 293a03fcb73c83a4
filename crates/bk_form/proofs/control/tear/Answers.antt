use Rattle.std.proofs.Common.{◌∙◌, sym, ap, get_or, arith}
use Rattle.std.specs.BTreeSet.{contains}
use Rattle.std.specs.Ordering.{nat_cmp}
use Rattle.bk_form.specs.Edges.{count_in}
use Rattle.bk_form.proofs.Edges.{tears_more, torn_here, whole_here}
use Rattle.bk_form.proofs.control.tear.Goals as goal
use Rattle.bk_form.proofs.control.tear.Goals.{then-count_of+in_ok-add_ends, else-count_of}

pub loop-edge-preserved : goal.loop-edge-preserved
loop-edge-preserved c = λ id.
    let i = c.loop-edge.edge-index in
    let es = c.args.edges.now in
    let from = count_in c.args.counts_from.now in
    let to = count_in c.args.counts_to.now in
    let old = contains nat_cmp c.loop-edge.torn id in
    tears_more es i (0, 0) from to id (contains nat_cmp c.args.torn.now id) old (contains nat_cmp c.if-count_of.torn id) (omega arith) (c.loop-edge.invariant id)
    (elim c.if-count_of.branch [
      | then-count_of+in_ok-add_ends w ↦
          ap (λ s. contains nat_cmp s id) w.torn-is ∙ (w.in_ok-add_ends.ensures id
          ∙ torn_here from to id (get_or es i (0, 0)) old (λ e. w.if-count_of.true (c.count_of.ensures ∙ (e ∙ sym c.count_of-in-loop-edge.ensures))))
      | else-count_of w ↦
          ap (λ s. contains nat_cmp s id) w.torn-is
          ∙ whole_here from to id (get_or es i (0, 0)) old (sym c.count_of.ensures ∙ (w.if-count_of.false ∙ c.count_of-in-loop-edge.ensures))
    ])
