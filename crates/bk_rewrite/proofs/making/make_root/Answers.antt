use Rattle.std.proofs.Common.{◌+◌, ◌<◌, length, ◌∙◌, refl}
use Rattle.bk_rule.proofs.Opened.{opened}
use Rattle.bk_rewrite.specs.Making.{source, inner_made}
use Rattle.bk_rewrite.proofs.Rows.{inner_is, inner_grows, root_is, parts_same, told}
use Rattle.bk_rewrite.proofs.making.make_root.Goals as goal

pub returns-in_err-args-in-Node-clause-grown : goal.returns-in_err-args-in-Node-clause-grown
unfolding opened
returns-in_err-args-in-Node-clause-grown c =
    let s = source c.args.plan.now.func.now c.args.plan.now.binds.now c.args.plan.now.target in
    let g = c.args.plan.now.greatest + 1 in
    let v = c.in-Node in
    told c.from_residual.result c.in_err-args-in-Node.field-0.0 (c.args.plan.now.room < length (inner_made s c.args.build.now g)) c.from_residual.ensures.1
    (λ q. inner_grows s c.args.build.now v.op v.ty v.int v.aux v.args c.as_slice.result.now g c.args.plan.now.room c.args.made.now.items v.is c.as_slice.ensures c.requires.empty (c.in_err-args-in-Node.ensures.grown q))

pub returns-in_ok-args-in-Node-clause-root : goal.returns-in_ok-args-in-Node-clause-root
unfolding opened
returns-in_ok-args-in-Node-clause-root c =
    let s = source c.args.plan.now.func.now c.args.plan.now.binds.now c.args.plan.now.target in
    let g = c.args.plan.now.greatest + 1 in
    let v = c.in-Node in
    root_is s c.args.build.now c.args.id c.args.old v.op v.ty v.int v.aux v.args c.as_slice.result.now g c.args.made.now.items c.node_value.result v.is c.as_slice.ensures c.requires.empty
    (c.node_value.ensures ∙ parts_same _ _ v.op _ _ _ _ _ _ _ _ refl c.type_of.ensures c.in_ok-args-in-Node.ensures.names refl c.aux_of.ensures)

pub returns-in_ok-args-in-Node-clause-made : goal.returns-in_ok-args-in-Node-clause-made
unfolding opened
returns-in_ok-args-in-Node-clause-made c =
    let s = source c.args.plan.now.func.now c.args.plan.now.binds.now c.args.plan.now.target in
    let g = c.args.plan.now.greatest + 1 in
    let v = c.in-Node in
    inner_is s c.args.build.now v.op v.ty v.int v.aux v.args c.as_slice.result.now g c.args.made.now.items c.make_args.new.made.items v.is c.as_slice.ensures c.requires.empty c.in_ok-args-in-Node.ensures.made
