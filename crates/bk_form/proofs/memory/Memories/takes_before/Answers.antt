use Rattle.std.proofs.Common.{◌∙◌, sym, get_or}
use Rattle.std.proofs.lemmas.Bool.{false≢true}
use Rattle.std.proofs.lemmas.Option.{slice_get-get_or}
use Rattle.bk_places.proofs.Elements.{lent}
use Rattle.bk_form.specs.Memories.{func_of}
use Rattle.bk_form.proofs.Remembered.{yes, no, taken_none, taken_more, taken_all, not_taken}
use Rattle.bk_form.proofs.memory.Memories.takes_before.Goals as goal

pub loop-index-init : goal.loop-index-init
loop-index-init c = taken_none (func_of c.args.self.now) c.args.preds.now c.args.ids.now

pub takes_behind-taken-requires-clause-number : goal.takes_behind-taken-requires-clause-number
takes_behind-taken-requires-clause-number c = c.requires.ids c.loop-index.index 0 c.loop-index-test.true

pub returns-then-not-taken : goal.returns-then-not-taken
returns-then-not-taken c = no (not_taken (func_of c.args.self.now) c.args.preds.now c.args.ids.now c.loop-index.index (get_or c.args.ids.now c.loop-index.index 0) c.copied-pred.result (slice_get-get_or c.args.ids.now c.loop-index.index 0 c.loop-index-test.true) (c.copied-pred.ensures ∙ lent c.args.preds.now c.loop-index.index c.get.result c.get.ensures.lookup)
    (λ h. false≢true (sym c.if-not-taken.true ∙ c.takes_behind-taken.ensures.1 h)))

pub loop-index-preserved : goal.loop-index-preserved
loop-index-preserved c = taken_more (func_of c.args.self.now) c.args.preds.now c.args.ids.now c.loop-index.index (get_or c.args.ids.now c.loop-index.index 0) c.copied-pred.result c.loop-index.invariant (slice_get-get_or c.args.ids.now c.loop-index.index 0 c.loop-index-test.true) (c.copied-pred.ensures ∙ lent c.args.preds.now c.loop-index.index c.get.result c.get.ensures.lookup)
    (c.takes_behind-taken.ensures.0 c.if-not-taken.false)

pub returns : goal.returns
returns c = yes (taken_all (func_of c.args.self.now) c.args.preds.now c.args.ids.now c.loop-index.index c.loop-index.invariant c.loop-index-test.false)
