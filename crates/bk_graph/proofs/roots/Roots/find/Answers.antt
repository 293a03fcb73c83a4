use Rattle.std.proofs.Common.{◌≢◌, ◌∙◌, sym, ap, subst, ℕ, List}
use Rattle.bk_graph.specs.Roots.{root_of, IsTree, roots}
use Rattle.bk_graph.proofs.Trees.{roots_at, roots_straight, tree_found, next_root}
use Rattle.bk_graph.proofs.roots.Roots.find.Goals as goal

pub loop-step-init : goal.loop-step-init
loop-step-init c = record {
  tree = c.self.invariant;
  same = c.self.view_is;
  root = c.root-root.ensures ∙ ap (λ (xs : List ℕ). root_of xs c.args.place) (sym c.self.view_is) ∙ roots_at c.self.inside.above.items c.args.place;
}

pub loop-step-preserved : goal.loop-step-preserved
loop-step-preserved c =
    let s = c.loop-step.self-inside.above.items in
    let i = c.loop-step.invariant in
    let next = c.above-next.ensures ∙ ap (λ (xs : List ℕ). root_of xs c.loop-step.at) c.deref.ensures.value in
    let goes : root_of s c.loop-step.at ≢ c.loop-step.at = λ e. c.if-next-at.false (next ∙ e) in
    let P : List ℕ → Type 0 = λ xs. IsTree xs in
    let same = ap roots c.set_above.ensures ∙ roots_straight s i.tree c.loop-step.at c.root-root.result goes i.root in
    record {
      tree = subst P (sym c.set_above.ensures) (tree_found s i.tree c.loop-step.at c.root-root.result goes i.root);
      same = same ∙ i.same;
      root = i.root ∙ next_root s i.tree c.loop-step.at c.above-next.result goes next
          ∙ sym (roots_at s c.above-next.result) ∙ ap (λ (xs : List ℕ). root_of xs c.above-next.result) (sym same) ∙ roots_at c.set_above.new.above.items c.above-next.result;
    }
