use Rattle.std.proofs.Common.{◌∙◌, sym, ap, subst}
use Rattle.std.proofs.lemmas.Bool.{false≢true}
use Rattle.std.proofs.lemmas.Result.{IfOk-weaker}
use Rattle.bk_func.specs.Form.Text.{IsPhi}
use Rattle.bk_form.specs.Names.{measure}
use Rattle.bk_form.specs.Places.{NodeRecord}
use Rattle.bk_form.proofs.Copied.{values_named}
use Rattle.bk_form.proofs.Placing.{takes_phi, takes_args, ids_named}
use Rattle.bk_form.proofs.order.taken.Goals as goal

pub returns-then-is_phi : goal.returns-then-is_phi
returns-then-is_phi c =
    takes_phi c.args.flow.now.scope.func.now c.args.node.now c.new.result.items c.new.ensures.items
    (subst IsPhi (ap (λ (m : NodeRecord). m.value) c.node.view_is) (c.is_phi.ensures.0 c.if-is_phi.true))

pub places_in-requires-clause-ids : goal.places_in-requires-clause-ids
places_in-requires-clause-ids c =
    let f = c.args.flow.now.scope.func.now in
    let args = c.as_slice.ensures ∙ (ap (λ v. v.args) c.value.view_is ∙ ap (λ (m : NodeRecord). m.value.args) c.node.view_is) in
    ids_named f (values_named (measure c.args.flow.now.scope) f c.requires.flow.named) c.args.node.now c.requires.node c.as_slice.result.now args

pub returns : goal.returns
returns c =
    let f = c.args.flow.now.scope.func.now in
    let args = c.as_slice.ensures ∙ (ap (λ v. v.args) c.value.view_is ∙ ap (λ (m : NodeRecord). m.value.args) c.node.view_is) in
    IfOk-weaker c.places_in.result _ _
    (λ ps h. takes_args f c.args.node.now c.node.inside.home c.as_slice.result.now ps.items (ap (λ (m : NodeRecord). m.home) c.node.view_is) args
    (λ phi. false≢true (sym c.if-is_phi.false ∙ c.is_phi.ensures.1 (subst IsPhi (sym (ap (λ (m : NodeRecord). m.value) c.node.view_is)) phi))) h)
    c.places_in.ensures
