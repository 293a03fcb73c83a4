use Rattle.std.proofs.Common.{◌≡◌, ◌∙◌, ◌↔◌, ap, subst, length, replicate, None, Some, true, arith}
use Rattle.std.specs.Option.{option_map}
use Rattle.bk_ops.specs.Families.{is_word_call}
use Rattle.bk_func.specs.Records.{ValueRecord, SigRecord}
use Rattle.bk_func.specs.Form.Signatures.{sig_of}
use Rattle.bk_places.proofs.Elements.{contains_at}
use Rattle.bk_places.proofs.Filling.{item_at}
use Rattle.bk_form.specs.Names.{measure, seen_callee}
use Rattle.bk_form.specs.Places.{NodeRecord, nodes_of}
use Rattle.bk_form.specs.Sent.{Passes}
use Rattle.bk_form.proofs.Copied.{values_named}
use Rattle.bk_form.proofs.Noting.{answers_none, asked_more}
use Rattle.bk_form.proofs.Sending.{answered_all, call_for}
use Rattle.bk_form.proofs.sent.answers_along.Goals as goal

pub loop-node-init : goal.loop-node-init
loop-node-init c =
    let w = c.args.flow.now.scope in
    let long : c.len-2.result ≡ length c.args.flow.now.nodes.items = omega arith in
    record {
      clear = record { labels = c.in_ok-search.ensures.none ∙ ap (λ n. replicate n None) c.len.ensures; marks = c.in_ok-search.ensures.marks };
      answers = answers_none (measure w) w.func.now c.args.steps.now (Passes (measure w) w.func.now c.args.question) c.in_ok-answers.answers.items c.len-2.result c.in_ok-answers.ensures
          (long ∙ ap length c.requires.flow.nodes);
    }

pub named_beside-before-requires-clause-node : goal.named_beside-before-requires-clause-node
named_beside-before-requires-clause-node c =
    let f = c.args.flow.now.scope.func.now in
    let at = item_at (c.deref-node-items.ensures.value ∙ c.requires.flow.nodes) c.loop-node.node-index c.node-item.result c.loop-node-test.true c.node-item.is in
    contains_at (nodes_of f) c.loop-node.node-index c.node-item.result at

pub ask-requires-clause-size : goal.ask-requires-clause-size
ask-requires-clause-size c = c.loop-node.invariant.answers.size

pub ask-requires-clause-clear : goal.ask-requires-clause-clear
ask-requires-clause-clear c = c.loop-node.invariant.clear

pub loop-node-preserved : goal.loop-node-preserved
loop-node-preserved c =
    let w = c.args.flow.now.scope in
    let i = c.loop-node.node-index in
    let m = c.node-item.result in
    let at = item_at (c.deref-node-items.ensures.value ∙ c.requires.flow.nodes) i m c.loop-node-test.true c.node-item.is in
    record {
      clear = c.in_ok-ask.ensures.clear;
      answers = asked_more (measure w) w.func.now c.args.steps.now (Passes (measure w) w.func.now c.args.question) i c.loop-node.answers.items c.ask.new.answers.items
          (λ (g : SigRecord). option_map seen_callee c.call_by-callee.result ≡ Some g) c.named_beside-before.result
          (call_for (measure w) w.func.now c.args.steps.now i m (λ (g : SigRecord). option_map seen_callee c.call_by-callee.result ≡ Some g) c.named_beside-before.result at
          (λ (g : SigRecord).
          subst (λ (v : ValueRecord). (option_map seen_callee c.call_by-callee.result ≡ Some g) ↔ ((is_word_call v.op.family ≡ true) × (sig_of w.pkg.now v.aux ≡ Some g)))
          (ap (λ (x : NodeRecord). x.value) c.node.view_is) (c.call_by-callee.ensures g))
          c.named_beside-before.ensures)
          c.loop-node.invariant.answers c.in_ok-ask.ensures.size c.in_ok-ask.ensures.each;
    }

pub returns : goal.returns
returns c =
    let w = c.args.flow.now.scope in
    let end : c.loop-node.node-index ≡ length c.deref-node-items.result.now = omega arith in
    let over = end ∙ ap length (c.deref-node-items.ensures.value ∙ c.requires.flow.nodes) in
    answered_all (measure w) w.func.now (values_named (measure w) w.func.now c.requires.flow.named) c.args.question c.args.steps.now c.loop-node.node-index c.loop-node.answers.items c.requires.steps (omega (arith, over)) c.loop-node.invariant.answers
