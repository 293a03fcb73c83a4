use Rattle.std.proofs.Common.{◌∙◌, sym, ap, ℕ, List, length, arith}
use Rattle.bk_graph.specs.Roots.{root_of}
use Rattle.bk_graph.proofs.Trees.{follow_on, follow_here, follow_out, roots_at}
use Rattle.bk_graph.proofs.roots.Roots.root.Goals as goal

pub loop-step-preserved : goal.loop-step-preserved
loop-step-preserved c =
    let s = c.self.inside.above.items in
    let next = c.above-next.ensures ∙ ap (λ (xs : List ℕ). root_of xs c.loop-step.at) c.deref.ensures.value in
    follow_on (length s) c.loop-step._step s c.loop-step.at c.above-next.result _ (omega arith) next c.if-next-at.false c.loop-step.invariant

pub returns-then-next-at : goal.returns-then-next-at
returns-then-next-at c =
    let s = c.self.inside.above.items in
    let next = c.above-next.ensures ∙ ap (λ (xs : List ℕ). root_of xs c.loop-step.at) c.deref.ensures.value in
    follow_here (length s) c.loop-step._step s c.loop-step.at c.above-next.result _ (omega arith) next c.if-next-at.true c.loop-step.invariant
    ∙ sym (roots_at s c.args.place) ∙ ap (λ (xs : List ℕ). root_of xs c.args.place) c.self.view_is

pub returns : goal.returns
returns c =
    let s = c.self.inside.above.items in
    follow_out (length s) c.loop-step._step s c.loop-step.at _ (omega arith) c.loop-step.invariant
    ∙ sym (roots_at s c.args.place) ∙ ap (λ (xs : List ℕ). root_of xs c.args.place) c.self.view_is
