use Rattle.std.proofs.Common.{◌≡◌, ◌∙◌, sym, ap, subst, ℕ, length, arith}
use Rattle.std.proofs.lemmas.Bool.{false≢true}
use Rattle.std.proofs.lemmas.Option.{same_Some}
use Rattle.bk_func.specs.Form.States.{CopiesMemory}
use Rattle.bk_places.proofs.Filling.{item_at}
use Rattle.bk_places.proofs.Sowing.{Sown, sown_first, sown_more, sown_past}
use Rattle.bk_form.specs.Names.{measure}
use Rattle.bk_form.specs.Places.{NodeRecord, nodes_of}
use Rattle.bk_form.proofs.Copied.{IsRoot, values_named, roots_are}
use Rattle.bk_form.proofs.roots.sow.Goals as goal

pub loop-place-init : goal.loop-place-init
loop-place-init c =
    sown_first c.args.copies.now c.len-nowhere.result (IsRoot c.args.flow.now.scope.func.now) c.args.search.now.labels.items c.args.search.now.reached.items c.requires.none c.requires.marks

pub loop-place-preserved-then-is_copy : goal.loop-place-preserved-then-is_copy
loop-place-preserved-then-is_copy c =
    let at = item_at (c.deref-node-items.ensures.value ∙ c.requires.flow.nodes) c.loop-place.place c.node-item.result c.loop-place-test.true c.node-item.is in
    let copies = subst CopiesMemory (ap (λ (m : NodeRecord). m.value) c.node.view_is) (c.copies_memory-is_copy.ensures.0 c.if-is_copy.true) in
    sown_past c.args.copies.now c.len-nowhere.result (IsRoot c.args.flow.now.scope.func.now) c.loop-place.place c.loop-place.search.labels.items c.loop-place.search.reached.items
    c.loop-place.invariant (λ (m, there, other). other (subst (λ (w : NodeRecord). CopiesMemory w.value) (same_Some c.node-item.result m (sym at ∙ there)) copies))

pub loop-place-preserved : goal.loop-place-preserved
loop-place-preserved c =
    let at = item_at (c.deref-node-items.ensures.value ∙ c.requires.flow.nodes) c.loop-place.place c.node-item.result c.loop-place-test.true c.node-item.is in
    sown_more c.args.copies.now c.len-nowhere.result (IsRoot c.args.flow.now.scope.func.now) c.loop-place.place c.loop-place.search.labels.items c.loop-place.search.reached.items
    c.extend.new.self.labels.items c.extend.new.self.reached.items c.loop-place.invariant
    (c.node-item.result, at, λ copies. false≢true (sym c.if-is_copy.false ∙ c.copies_memory-is_copy.ensures.1 (subst CopiesMemory (sym (ap (λ (m : NodeRecord). m.value) c.node.view_is)) copies)))
    c.in_ok-extend.ensures.marks c.in_ok-extend.ensures.closed c.in_ok-extend.ensures.grows c.in_ok-extend.ensures.found

pub returns : goal.returns
returns c =
    let f = c.args.flow.now.scope.func.now in
    let long : length c.deref-node-items.result.now ≡ length (nodes_of f) = ap length (c.deref-node-items.ensures.value ∙ c.requires.flow.nodes) in
    roots_are f (values_named (measure c.args.flow.now.scope) f c.requires.flow.named) c.args.copies.now c.requires.copies c.loop-place.search.labels.items c.loop-place.search.reached.items
    c.loop-place.place
    (subst (λ (n : ℕ). Sown c.args.copies.now n (IsRoot f) c.loop-place.place c.loop-place.search.labels.items c.loop-place.search.reached.items) c.len-nowhere.ensures c.loop-place.invariant)
    (omega (arith, long))
