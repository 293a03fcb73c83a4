use Rattle.bk_func.specs.Records.{ValueRecord}
use Rattle.bk_form.specs.Names.{measure, seen_callee}
use Rattle.bk_form.specs.Sent.{Passes}
use Rattle.bk_form.proofs.Noting.{noted_none, noted_more, noted_all}
use Rattle.bk_form.proofs.sent.note.Goals as goal

pub loop-place-init : goal.loop-place-init
loop-place-init c =
    let w = c.args.flow.now.scope in
    noted_none w.func.now (λ (v : ValueRecord). Passes (measure w) w.func.now c.args.question (seen_callee c.args.callee) v) c.args.places.now c.args.answers.now.items

pub loop-place-preserved : goal.loop-place-preserved
loop-place-preserved c =
    let w = c.args.flow.now.scope in
    noted_more w.func.now (λ (v : ValueRecord). Passes (measure w) w.func.now c.args.question (seen_callee c.args.callee) v) c.args.places.now c.args.answers.now.items c.loop-place.place-index
    c.loop-place.answers.items c.note_at.new.answers.items c.passes_at-is_yes.result c.loop-place-test.true c.requires.size c.loop-place.invariant c.passes_at-is_yes.ensures c.note_at.ensures

pub returns-clause-each : goal.returns-clause-each
returns-clause-each c =
    let w = c.args.flow.now.scope in
    noted_all w.func.now (λ (v : ValueRecord). Passes (measure w) w.func.now c.args.question (seen_callee c.args.callee) v) c.args.places.now c.args.answers.now.items c.loop-place.place-index
    c.loop-place.answers.items c.loop-place-test.false c.loop-place.invariant
