use Rattle.std.proofs.Common.{◌∙◌, sym, ap, arith}
use Rattle.std.specs.List.{slice_get}
use Rattle.bk_form.specs.Carried.{out_of}
use Rattle.bk_form.proofs.Gathering.{differs_none, differs_past, differs_more, differs_all}
use Rattle.bk_form.proofs.carried.differing.Goals as goal

pub loop-at-init : goal.loop-at-init
loop-at-init c =
    differs_none c.args.edges.now c.args.chains.now c.args.reached.now c.args.noted.now c.new-places.result.items c.push.new.self.items c.new-places.ensures.items c.in_ok-push.ensures.items

pub loop-at-preserved-then-not-is_reached : goal.loop-at-preserved-then-not-is_reached
loop-at-preserved-then-not-is_reached c =
    differs_past c.args.edges.now c.args.chains.now c.args.reached.now c.args.noted.now c.loop-at.at c.loop-at.places.items c.loop-at.invariant
    (sym c.has-is_reached.ensures ∙ c.if-not-is_reached.true)

pub loop-at-preserved : goal.loop-at-preserved
loop-at-preserved c =
    differs_more c.args.edges.now c.args.chains.now c.args.reached.now c.args.noted.now c.loop-at.at c.loop-at.places.items c.push_differing.new.differing.items c.behind.result.now
    c.outgoing-state.result c.loop-at.invariant (sym c.has-is_reached.ensures ∙ c.if-not-is_reached.false) c.behind.ensures
    (c.outgoing-state.ensures ∙ ap (out_of (slice_get c.args.chains.now c.loop-at.at)) c.entry.ensures) c.in_ok-push_differing.ensures

pub returns : goal.returns
returns c = differs_all c.args.edges.now c.args.chains.now c.args.reached.now c.args.noted.now c.loop-at.at c.loop-at.places.items (omega arith) c.loop-at.invariant
