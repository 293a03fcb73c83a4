use Rattle.std.proofs.Common.{◌≡◌, ◌+◌, ◌<◌, ◌++◌, [], ◌∷◌, length, length-append, ap, refl, ◌∙◌, arith}
use Rattle.bk_rule.proofs.Opened.{opened}
use Rattle.bk_rewrite.specs.Making.{source, type_made, each_made, each_name, values_made}
use Rattle.bk_rewrite.proofs.Rows.{grows_node, name_is, made_is, parts_same, told, not_grown, made_step, name_step, made_end, name_end, grown_at}
use Rattle.bk_rewrite.proofs.making.+make.Goals as goal

pub make-returns-in_err-args-in-Node-clause-grown : goal.make-returns-in_err-args-in-Node-clause-grown
unfolding opened
make-returns-in_err-args-in-Node-clause-grown t c =
    let s = source c.args.plan.now.func.now c.args.plan.now.binds.now c.args.plan.now.target in
    let n = c.args.plan.now.greatest + 1 + length c.args.made.now.items in
    let v = c.in-Node in
    told c.from_residual.result c.in_err-args-in-Node.field-0.0 (c.args.plan.now.room < length c.args.made.now.items + length (values_made s c.args.build.now n)) c.from_residual.ensures.1
    (λ q. (let k : c.args.plan.now.room < length c.args.made.now.items + length (each_made s c.as_slice.result.now n) = c.in_err-args-in-Node.ensures.grown q in
    grows_node s c.args.build.now v.op v.ty v.int v.aux v.args c.as_slice.result.now n c.args.plan.now.room (length c.args.made.now.items) v.is c.as_slice.ensures (omega arith)))

pub make-returns-then-len-plan-clause-grown : goal.make-returns-then-len-plan-clause-grown
unfolding opened
make-returns-then-len-plan-clause-grown t c = λ q.
    let s = source c.args.plan.now.func.now c.args.plan.now.binds.now c.args.plan.now.target in
    let n = c.args.plan.now.greatest + 1 + length c.args.made.now.items in
    let v = c.in-Node in
    grows_node s c.args.build.now v.op v.ty v.int v.aux v.args c.as_slice.result.now n c.args.plan.now.room (length c.args.made.now.items) v.is c.as_slice.ensures
    (omega (arith, ap length c.in_ok-args-in-Node.ensures.made, length-append c.args.made.now.items (each_made s c.as_slice.result.now n)))

pub make-returns-in_err-push_value-in-Node-clause-grown : goal.make-returns-in_err-push_value-in-Node-clause-grown
unfolding opened
make-returns-in_err-push_value-in-Node-clause-grown t c =
    not_grown c.from_residual-in_err-push_value-in-Node.result _ c.from_residual-in_err-push_value-in-Node.ensures.1

pub make-returns-in_ok-push_value-in-Node-clause-name : goal.make-returns-in_ok-push_value-in-Node-clause-name
unfolding opened
make-returns-in_ok-push_value-in-Node-clause-name t c =
    let s = source c.args.plan.now.func.now c.args.plan.now.binds.now c.args.plan.now.target in
    let n = c.args.plan.now.greatest + 1 + length c.args.made.now.items in
    let v = c.in-Node in
    name_is s c.args.build.now v.op v.ty v.int v.aux v.args c.as_slice.result.now n (c.args.plan.now.greatest + 1 + c.len-in-Node.result) v.is c.as_slice.ensures
    (omega (arith, ap length c.in_ok-args-in-Node.ensures.made, length-append c.args.made.now.items (each_made s c.as_slice.result.now n)))

pub make-returns-in_ok-push_value-in-Node-clause-made : goal.make-returns-in_ok-push_value-in-Node-clause-made
unfolding opened
make-returns-in_ok-push_value-in-Node-clause-made t c =
    let s = source c.args.plan.now.func.now c.args.plan.now.binds.now c.args.plan.now.target in
    let n = c.args.plan.now.greatest + 1 + length c.args.made.now.items in
    let v = c.in-Node in
    let k : c.args.plan.now.greatest + 1 + c.len-in-Node.result ≡ n + length (each_made s c.as_slice.result.now n) =
    omega (arith, ap length c.in_ok-args-in-Node.ensures.made, length-append c.args.made.now.items (each_made s c.as_slice.result.now n)) in
    made_is s c.args.build.now v.op v.ty v.int v.aux v.args c.as_slice.result.now n c.args.made.now.items c.make_args.new.made.items c.push_value.new.made.items c.node_value.result v.is c.as_slice.ensures
    c.in_ok-args-in-Node.ensures.made c.in_ok-push_value-in-Node.ensures
    (c.node_value.ensures ∙ parts_same _ _ v.op _ _ _ _ _ _ _ _ k (c.type_of.ensures ∙ ap (type_made c.args.plan.now.binds.now v.ty) c.type_by.ensures) c.in_ok-args-in-Node.ensures.names refl c.aux_of.ensures)

pub make_args-returns-in_err-id-clause-grown : goal.make_args-returns-in_err-id-clause-grown
unfolding opened
make_args-returns-in_err-id-clause-grown t c =
    let s = source c.args.plan.now.func.now c.args.plan.now.binds.now c.args.plan.now.target in
    let g = c.args.plan.now.greatest + 1 in
    told c.from_residual.result c.in_err-id.field-0.0 (c.args.plan.now.room < length c.args.made.now.items + length (each_made s c.args.builds.now (g + length c.args.made.now.items))) c.from_residual.ensures.1
    (λ q. grown_at s c.args.builds.now c.loop-build.build-index g c.args.plan.now.room c.build-item.result c.loop-build.made.items c.args.made.now.items (each_made s c.args.builds.now (g + length c.args.made.now.items))
    c.loop-build.invariant.made (omega arith) c.build-item.is (c.in_err-id.ensures.grown q))

pub make_args-returns-in_err-push_arg-clause-grown : goal.make_args-returns-in_err-push_arg-clause-grown
unfolding opened
make_args-returns-in_err-push_arg-clause-grown t c = not_grown c.from_residual-in_err-push_arg.result _ c.from_residual-in_err-push_arg.ensures.1

pub make_args-loop-build-preserved : goal.make_args-loop-build-preserved
unfolding opened
make_args-loop-build-preserved t c =
    let s = source c.args.plan.now.func.now c.args.plan.now.binds.now c.args.plan.now.target in
    let g = c.args.plan.now.greatest + 1 in
    let h : c.loop-build.build-index < length c.args.builds.now = omega arith in
    record {
      made = made_step s c.args.builds.now c.loop-build.build-index g c.build-item.result c.loop-build.made.items c.make.new.made.items
          (c.args.made.now.items ++ each_made s c.args.builds.now (g + length c.args.made.now.items)) c.loop-build.invariant.made h c.build-item.is c.in_ok-id.ensures.made;
      names = name_step s c.args.builds.now c.loop-build.build-index g c.build-item.result c.loop-build.made.items c.make.new.made.items c.loop-build.args.items c.push_arg.new.args.items
          (each_name s c.args.builds.now (g + length c.args.made.now.items)) c.loop-build.invariant.names h c.build-item.is c.in_ok-id.ensures.made
          (c.in_ok-push_arg.ensures ∙ ap (λ z. c.loop-build.args.items ++ z ∷ []) c.in_ok-id.ensures.name);
      room = c.in_ok-id.ensures.room;
    }

pub make_args-returns-clause-names : goal.make_args-returns-clause-names
unfolding opened
make_args-returns-clause-names t c =
    let s = source c.args.plan.now.func.now c.args.plan.now.binds.now c.args.plan.now.target in
    let g = c.args.plan.now.greatest + 1 in
    name_end s c.args.builds.now c.loop-build.build-index g c.loop-build.made.items c.loop-build.args.items (each_name s c.args.builds.now (g + length c.args.made.now.items)) c.loop-build.invariant.names (omega arith)

pub make_args-returns-clause-made : goal.make_args-returns-clause-made
unfolding opened
make_args-returns-clause-made t c =
    let s = source c.args.plan.now.func.now c.args.plan.now.binds.now c.args.plan.now.target in
    let g = c.args.plan.now.greatest + 1 in
    made_end s c.args.builds.now c.loop-build.build-index g c.loop-build.made.items (c.args.made.now.items ++ each_made s c.args.builds.now (g + length c.args.made.now.items)) c.loop-build.invariant.made (omega arith)
