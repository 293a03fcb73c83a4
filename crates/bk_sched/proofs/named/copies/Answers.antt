use Rattle.std.proofs.Common.{rules, ◌≡◌, ◌∙◌, sym, ap, subst, ℕ, ◌+◌, List, length, arith}
use Rattle.bk_places.proofs.Filling.{item_at}
use Rattle.bk_sched.specs.Named.{AreCopies}
use Rattle.bk_sched.proofs.Naming.{copies_none, copies_more}
use Rattle.bk_sched.proofs.named.copies.Goals as goal

pub loop-place-init : goal.loop-place-init
loop-place-init c =
    let long : c.len.result ≡ length c.args.places.now.numbers.items = search rules in
    copies_none c.args.block.now.values c.args.places.now.numbers.items c.in_ok-edges.edges c.len.result c.in_ok-edges.ensures long

pub loop-place-preserved : goal.loop-place-preserved
loop-place-preserved c =
    let vs = c.args.block.now.values in
    let ns = c.args.places.now.numbers.items in
    let i = c.loop-place.place in
    let same = c.deref-value-items.ensures.value ∙ ap (λ b. b.values) c.block.view_is in
    subst (λ (es : List (List ℕ)). AreCopies vs ns (i + 1) es) (sym c.in_ok-add_from.ensures)
    (copies_more vs ns i c.loop-place.edges c.value-item.result c.copied-source.result c.loop-place.invariant
    (item_at same i c.value-item.result c.loop-place-test.true c.value-item.is) c.copied-source.ensures)

pub returns : goal.returns
returns c =
    let same = c.deref-value-items.ensures.value ∙ ap (λ b. b.values) c.block.view_is in
    let end : c.loop-place.place ≡ length c.deref-value-items.result.now = omega arith in
    subst (λ (n : ℕ). AreCopies c.args.block.now.values c.args.places.now.numbers.items n c.loop-place.edges) (end ∙ ap length same) c.loop-place.invariant
