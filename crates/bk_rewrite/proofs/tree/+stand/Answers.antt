use Rattle.std.proofs.Common.{◌≡◌, ◌+◌, true, if◌then◌else◌, rules, arith, length, sym, ap, ◌∙◌, Some, subst, ℕ}
use Rattle.std.specs.Prelude.{slice_get}
use Rattle.std.proofs.lemmas.Result.{IfOk-weaker}
use Rattle.bk_func.specs.Records.{ValueRecord}
use Rattle.bk_func.specs.Numbers.{value_of}
use Rattle.bk_rule.proofs.Opened.{opened}
use Rattle.bk_rule.specs.Match.{Matches, is_commutative, swapped, orders, variables}
use Rattle.bk_rewrite.specs.Trials.{PatternsNumbered, Stood}
use Rattle.bk_rewrite.proofs.Standings.{named_id}
use Rattle.bk_rewrite.proofs.Standing.{looked_up, stood_node, failed_args, failed_op, orders_node, stood_var, numbered_parts, plain_order, chosen_order, stood_order, swapped_two, order_long, order_written, goes_on, failed_length, used_on}
use Rattle.bk_rewrite.proofs.tree.+stand.Goals.{stand_args-else-swap-via-then-swap+else-ids-eq2, stand_args-else-swap-via-else-swap}
use Rattle.bk_rewrite.proofs.tree.+stand.Goals as goal

-- ---- one tree
pub stand-returns-in-Var-clause-stands : goal.stand-returns-in-Var-clause-stands
unfolding opened
stand-returns-in-Var-clause-stands t c = λ u.
    let f = c.args.at.now.func.now in
    IfOk-weaker c.stand_var.result _ _
    (λ r h q. subst (λ (n : ℕ). Stood c.args.at.now.choices.now (variables c.args.pattern.now) (orders c.args.pattern.now) (λ bs cs. Matches f bs c.args.pattern.now c.args.id cs) c.args.trail.now.binds.items c.stand_var.new.trail.binds.items c.args.trail.now.used n) (sym c.stand_var.ensures.used)
    (stood_var f c.args.at.now.choices.now c.args.pattern.now c.in-Var.variable c.args.id c.args.trail.now.used c.args.trail.now.binds.items c.stand_var.new.trail.binds.items c.in-Var.is (h q)))
    c.stand_var.ensures.stands

pub stand-returns-then-not-same_op-clause-fails : goal.stand-returns-then-not-same_op-clause-fails
unfolding opened
stand-returns-then-not-same_op-clause-fails t c = λ u m q.
    let f = c.args.at.now.func.now in
    let v = c.in-Some.value.now in
    let n = c.in-Node in
    let e : value_of f c.args.id ≡ Some v = sym (c.in-Some.ensures.named u) in
    failed_op f c.args.at.now.choices.now c.args.pattern.now n.var n.op n.ty n.int n.aux n.args c.args.id c.args.trail.now.used v c.args.trail.now.binds.items n.is e (named_id f c.args.id v e)
    (λ d. c.same_op.ensures.other (search rules) (ap (λ (w : ValueRecord). w.op) c.value.view_is ∙ d))

pub stand-returns-else-not-branch-clause-stands : goal.stand-returns-else-not-branch-clause-stands
unfolding opened
stand-returns-else-not-branch-clause-stands t c = λ u.
    let f = c.args.at.now.func.now in
    let v = c.in-Some.value.now in
    let n = c.in-Node in
    let e : value_of f c.args.id ≡ Some v = sym (c.in-Some.ensures.named u) in
    let o0 : c.value.inside.op ≡ n.op = c.same_op.ensures.same (search rules) in
    let o : v.op ≡ n.op = sym (ap (λ (w : ValueRecord). w.op) c.value.view_is) ∙ o0 in
    IfOk-weaker c.stand_args.result _ _
    (λ r h q. stood_node f c.args.at.now.choices.now c.args.pattern.now n.var n.op n.ty n.int n.aux n.args c.as_slice.result.now c.as_slice-in-Node.result.now c.args.id
    c.args.trail.now.used c.stand_args.new.trail.used v c.args.trail.now.binds.items c.bind_node.new.binds.items c.stand_args.new.trail.binds.items
    n.is c.as_slice.ensures (c.as_slice-in-Node.ensures ∙ ap (λ (w : ValueRecord). w.args) c.value.view_is) e (named_id f c.args.id v e) o (c.in_ok-bind_node-in-Node.ensures.fits (search rules)) (h q))
    (c.stand_args.ensures.stands u)

pub stand-returns-else-not-branch-clause-fails : goal.stand-returns-else-not-branch-clause-fails
unfolding opened
stand-returns-else-not-branch-clause-fails t c = λ u m.
    let f = c.args.at.now.func.now in
    let v = c.in-Some.value.now in
    let n = c.in-Node in
    let e : value_of f c.args.id ≡ Some v = sym (c.in-Some.ensures.named u) in
    let b = c.in_ok-bind_node-in-Node.ensures.fits (search rules) in
    let (a, k) = numbered_parts (length c.args.trail.now.binds.items) c.args.pattern.now n.var n.op n.ty n.int n.aux n.args c.as_slice.result.now n.is c.as_slice.ensures m in
    IfOk-weaker c.stand_args.result _ _
    (λ r h q. failed_args f c.args.at.now.choices.now c.args.pattern.now n.var n.op n.ty n.int n.aux n.args c.as_slice.result.now c.as_slice-in-Node.result.now c.args.id
    c.args.trail.now.used v c.args.trail.now.binds.items c.bind_node.new.binds.items
    n.is c.as_slice.ensures (c.as_slice-in-Node.ensures ∙ ap (λ (w : ValueRecord). w.args) c.value.view_is) e (named_id f c.args.id v e) b (h q))
    (c.stand_args.ensures.fails u (subst (λ (n : ℕ). PatternsNumbered n c.as_slice.result.now) (sym b.variables) k))

pub stand-returns-else-not-branch-clause-used : goal.stand-returns-else-not-branch-clause-used
unfolding opened
stand-returns-else-not-branch-clause-used t c =
    let n = c.in-Node in
    IfOk-weaker c.stand_args.result _ _
    (λ r h q. omega (arith, h q, orders_node c.args.pattern.now n.var n.op n.ty n.int n.aux n.args c.as_slice.result.now n.is c.as_slice.ensures))
    c.stand_args.ensures.used

pub stand-returns-else-not-branch-clause-asks : goal.stand-returns-else-not-branch-clause-asks
unfolding opened
stand-returns-else-not-branch-clause-asks t c =
    let n = c.in-Node in
    IfOk-weaker c.stand_args.result _ _
    (λ r h q. omega (arith, h q, orders_node c.args.pattern.now n.var n.op n.ty n.int n.aux n.args c.as_slice.result.now n.is c.as_slice.ensures))
    c.stand_args.ensures.asks

-- ---- arguments in their order
pub stand_args-returns-then-not-op_info-clause-stands : goal.stand_args-returns-then-not-op_info-clause-stands
unfolding opened
stand_args-returns-then-not-op_info-clause-stands t c = λ u.
    let cs = c.args.at.now.choices.now in
    IfOk-weaker c.stand_each.result _ _
    (λ r h q. stood_order c.args.at.now.func.now cs c.args.op c.args.patterns.now c.args.ids.now c.args.ids.now c.args.trail.now.used c.args.trail.now.used c.stand_each.new.trail.used
    c.args.trail.now.binds.items c.stand_each.new.trail.binds.items (plain_order cs c.args.op c.args.ids.now c.args.trail.now.used (search rules)) (h q))
    (c.stand_each.ensures.stands u)

pub stand_args-returns-then-ids-eq2-clause-stands : goal.stand_args-returns-then-ids-eq2-clause-stands
unfolding opened
stand_args-returns-then-ids-eq2-clause-stands t c = λ u.
    let cs = c.args.at.now.choices.now in
    let n = c.args.trail.now.used in
    let e : is_commutative c.args.op ≡ true = search rules in
    let g : slice_get cs n ≡ Some true = looked_up cs n c.get.result c.copied.result c.in-Some.swap c.get.ensures.lookup c.copied.ensures c.in-Some.is ∙ ap Some c.if-swap.true in
    IfOk-weaker c.stand_each-then-ids-eq2.result _ _
    (λ r h q. stood_order c.args.at.now.func.now cs c.args.op c.args.patterns.now c.args.ids.now _ n (n + 1) c.stand_each-then-ids-eq2.new.trail.used
    c.args.trail.now.binds.items c.stand_each-then-ids-eq2.new.trail.binds.items
    (chosen_order cs c.args.op c.args.ids.now _ true n e g (swapped_two c.args.ids.now _ _ (search rules) (search rules) (search rules))) (h q))
    (c.stand_each-then-ids-eq2.ensures.stands u)

pub stand_args-returns-else-swap-clause-stands : goal.stand_args-returns-else-swap-clause-stands
unfolding opened
stand_args-returns-else-swap-clause-stands t c = λ u.
    let cs = c.args.at.now.choices.now in
    let n = c.args.trail.now.used in
    let e : is_commutative c.args.op ≡ true = search rules in
    let g : slice_get cs n ≡ Some c.in-Some.swap = looked_up cs n c.get.result c.copied.result c.in-Some.swap c.get.ensures.lookup c.copied.ensures c.in-Some.is in
    let d : (if c.in-Some.swap then swapped c.args.ids.now else c.args.ids.now) ≡ c.args.ids.now = elim c.else-swap.branch [
      | stand_args-else-swap-via-then-swap+else-ids-eq2 w ↦ order_long c.in-Some.swap c.args.ids.now (λ q. omega arith)
      | stand_args-else-swap-via-else-swap w ↦ order_written c.in-Some.swap c.args.ids.now (search rules)
    ] in
    IfOk-weaker c.stand_each-else-swap.result _ _
    (λ r h q. stood_order c.args.at.now.func.now cs c.args.op c.args.patterns.now c.args.ids.now c.args.ids.now n (n + 1) c.stand_each-else-swap.new.trail.used
    c.args.trail.now.binds.items c.stand_each-else-swap.new.trail.binds.items (chosen_order cs c.args.op c.args.ids.now c.args.ids.now c.in-Some.swap n e g d) (h q))
    (c.stand_each-else-swap.ensures.stands u)

-- ---- arguments one after the other
pub stand_each-returns-then-patterns-ids-clause-fails : goal.stand_each-returns-then-patterns-ids-clause-fails
unfolding opened
stand_each-returns-then-patterns-ids-clause-fails t c = λ u m q.
    failed_length c.args.at.now.func.now c.args.at.now.choices.now c.args.patterns.now c.args.ids.now c.args.trail.now.binds.items c.args.trail.now.used (λ e. absurd (search rules))

pub stand_each-loop-place-preserved : goal.stand_each-loop-place-preserved
unfolding opened
stand_each-loop-place-preserved t c = record {
  goes = λ u. goes_on c.args.at.now.func.now c.args.at.now.choices.now c.args.patterns.now c.args.ids.now c.loop-place.place c.index-patterns-place.result _
      c.args.trail.now.binds.items c.loop-place.trail.binds.items c.stand.new.trail.binds.items c.args.trail.now.used c.loop-place.trail.used c.stand.new.trail.used
      (c.loop-place.invariant.goes u) (omega arith) (omega arith) c.index-patterns-place.is (search rules) (c.in_ok-stand.ensures.stands u c.in-Stands.is);
  used = used_on c.args.patterns.now c.loop-place.place c.index-patterns-place.result c.args.trail.now.used c.loop-place.trail.used c.stand.new.trail.used
      c.loop-place.invariant.used (omega arith) c.index-patterns-place.is (c.in_ok-stand.ensures.used c.in-Stands.is);
}
