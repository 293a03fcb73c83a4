use Rattle.std.proofs.Common.{◌≡◌, ◌∙◌, sym, ap, subst, ℕ, ◌+◌, ◌↔◌, List, length, arith}
use Rattle.std.specs.Option.{MatchOption}
use Rattle.bk_func.specs.Records.{ValueRecord}
use Rattle.bk_places.proofs.Filling.{item_at}
use Rattle.bk_form.specs.Places.{NodeRecord}
use Rattle.bk_form.specs.Roots.{AreCopies, Copies}
use Rattle.bk_form.proofs.Copied.{copies_first, copies_more}
use Rattle.bk_form.proofs.roots.copies.Goals as goal

pub loop-place-init : goal.loop-place-init
loop-place-init c =
    let long : c.len.result ≡ length c.args.flow.now.nodes.items = omega arith in
    copies_first c.args.flow.now.scope.func.now c.in_ok-edges.edges c.len.result c.in_ok-edges.ensures (long ∙ ap length c.requires.nodes)

pub loop-place-preserved : goal.loop-place-preserved
loop-place-preserved c =
    let f = c.args.flow.now.scope.func.now in
    let i = c.loop-place.place in
    subst (λ (es : List (List ℕ)). AreCopies f (i + 1) es) (sym c.in_ok-add_from.ensures)
    (copies_more f i c.loop-place.edges c.node-item.result c.copied-source.result c.loop-place.invariant
    (item_at (c.deref-node-items.ensures.value ∙ c.requires.nodes) i c.node-item.result c.loop-place-test.true c.node-item.is)
    (subst (λ (v : ValueRecord). MatchOption c.copied-source.result ((p : ℕ) → ¬ Copies f v p) (λ q. (p : ℕ) → Copies f v p ↔ (p ≡ q)))
    (ap (λ (m : NodeRecord). m.value) c.node.view_is) c.copied-source.ensures))

pub returns : goal.returns
returns c =
    let end : c.loop-place.place ≡ length c.deref-node-items.result.now = omega arith in
    subst (λ (n : ℕ). AreCopies c.args.flow.now.scope.func.now n c.loop-place.edges) (end ∙ ap length (c.deref-node-items.ensures.value ∙ c.requires.nodes)) c.loop-place.invariant
