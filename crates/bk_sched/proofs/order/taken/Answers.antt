use Rattle.std.proofs.Common.{◌∙◌, sym, ap}
use Rattle.std.proofs.lemmas.Bool.{false≢true}
use Rattle.std.proofs.lemmas.Result.{IfOk-weaker}
use Rattle.bk_sched.proofs.Placing.{taken_args}
use Rattle.bk_sched.proofs.order.taken.Goals as goal

pub returns : goal.returns
returns c =
    let args = c.as_slice.ensures ∙ ap (λ v. v.args) c.value.view_is in
    IfOk-weaker c.places_below.result _ _
    (λ ps h. taken_args c.args.places.now.numbers.items c.args.value.now c.args.count c.as_slice.result.now ps.items args (λ phi. false≢true (sym c.if-is_phi.false ∙ c.is_phi.ensures.1 phi)) h)
    c.places_below.ensures
