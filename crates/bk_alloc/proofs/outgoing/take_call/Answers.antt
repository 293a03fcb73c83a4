use Rattle.std.proofs.Common.{◌∙◌, ap}
use Rattle.bk_func.specs.Records.{ValueRecord}
use Rattle.bk_alloc.specs.Outgoing.{callee}
use Rattle.bk_alloc.proofs.Outward.{call_taken, none_taken}
use Rattle.bk_alloc.proofs.outgoing.take_call.Goals as goal

pub returns-in_ok-words-in-Some : goal.returns-in_ok-words-in-Some
returns-in_ok-words-in-Some c = λ called before.
    call_taken c.args.target called c.args.pkg.now.funcs c.args.value.now c.in-Some.symbol c.args.most c.in_ok-words-in-Some.words c.max.result
    (c.in-Some.ensures.callee ∙ ap (λ (v : ValueRecord). callee v.op.family v.aux) c.value.view_is) c.in_ok-words-in-Some.ensures c.max.ensures before

pub returns-in-None : goal.returns-in-None
returns-in-None c = λ called before.
    none_taken c.args.target called c.args.pkg.now.funcs c.args.value.now c.args.most
    (c.in-None.ensures.callee ∙ ap (λ (v : ValueRecord). callee v.op.family v.aux) c.value.view_is) before
