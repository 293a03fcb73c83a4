use Rattle.std.proofs.Common.{◌≡◌, ◌∙◌, sym, refl, ap, subst, ℕ, List, [], length, replicate}
use Rattle.bk_func.specs.Records.{BlockRecord}
use Rattle.bk_live.specs.Adds.{Some_before}
use Rattle.bk_live.specs.Edges.{AddsEdges, IsNamed}
use Rattle.bk_live.specs.Homes.{place}
use Rattle.bk_live.proofs.Adding.{item_at}
use Rattle.bk_live.proofs.Edging.{edges_none, edges_more, backward_is}
use Rattle.bk_live.proofs.edges.Edges.backwards.Goals as goal

pub loop-place-init : goal.loop-place-init
loop-place-init c =
    let R : ℕ → BlockRecord → ℕ × ℕ → Type 0 = λ (k : ℕ) (b : BlockRecord) (e : ℕ × ℕ). IsNamed (place c.args.places.now) b.succs e.0 × (e.1 ≡ k) in
    let es : List (List ℕ) = replicate (length c.args.blocks.now) [] in
    subst (λ (gs : List (List ℕ)). AddsEdges (Some_before c.args.blocks.now R 0) es gs) (sym c.in_ok-edges.ensures) (edges_none c.args.blocks.now R es)

pub loop-place-preserved : goal.loop-place-preserved
loop-place-preserved c =
    let R : ℕ → BlockRecord → ℕ × ℕ → Type 0 = λ (k : ℕ) (b : BlockRecord) (e : ℕ × ℕ). IsNamed (place c.args.places.now) b.succs e.0 × (e.1 ≡ k) in
    let i = c.loop-place.place in
    let b = c.index-blocks-place.result in
    edges_more c.args.blocks.now R (replicate (length c.args.blocks.now) []) c.loop-place.edges c.add_all.new.self i b
    (item_at refl i b c.loop-place-test.true c.index-blocks-place.is) c.loop-place.invariant
    (subst (λ (ns : List ℕ). AddsEdges (λ e. IsNamed (place c.args.places.now) ns e.0 × (e.1 ≡ i)) c.loop-place.edges c.add_all.new.self)
    (c.deref.ensures.value ∙ ap (λ b. b.succs) c.block.view_is) c.in_ok-add_all.ensures)

pub returns : goal.returns
returns c = backward_is c.args.blocks.now (place c.args.places.now) c.loop-place.edges c.loop-place.place c.loop-place-test.false c.loop-place.invariant
