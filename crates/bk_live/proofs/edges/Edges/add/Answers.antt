use Rattle.std.proofs.Common.{◌≡◌, ◌∙◌, ◌<◌, ◌≤◌, sym, ap, subst, ℕ, List, length, Some, arith}
use Rattle.std.proofs.lemmas.List.{length-map}
use Rattle.std.proofs.lemmas.Option.{none-some, same_Some}
use Rattle.bk_live.specs.Edges.{AddsEdges}
use Rattle.bk_live.proofs.Edging.{adds_no_edge, adds_edge, edge_more}
use Rattle.bk_live.proofs.edges.Edges.add.Goals as goal

pub returns-in_default : goal.returns-in_default
returns-in_default c = adds_no_edge (λ e. (c.args.from ≡ Some e.0) × (e.1 ≡ c.args.to)) c.args.self.now (λ e l (s, t). none-some e.0 (sym c.in_default.is ∙ s))

pub returns-then-places-from : goal.returns-then-places-from
returns-then-places-from c =
    let same : length c.args.self.now ≡ length c.self.inside.lists.items = ap length (sym c.self.view_is) ∙ length-map c.self.inside.lists.items _ in
    let over : length c.args.self.now ≤ c.in-Some.from = omega arith in
    adds_no_edge (λ e. (c.args.from ≡ Some e.0) × (e.1 ≡ c.args.to)) c.args.self.now
    (λ e l (s, t). let is : c.in-Some.from ≡ e.0 = same_Some c.in-Some.from e.0 (sym c.in-Some.is ∙ s) in omega arith)

pub returns : goal.returns
returns c =
    let within : c.in-Some.from < length c.self.inside.lists.items = omega arith in
    let same : length c.args.self.now ≡ length c.self.inside.lists.items = ap length (sym c.self.view_is) ∙ length-map c.self.inside.lists.items _ in
    let inside : c.in-Some.from < length c.args.self.now = omega arith in
    let is = edge_more _ c.self.inside.lists.items c.in-Some.from c.args.to c.index_mut.result.now c.push.new.self c.args.self.now c.self.view_is within c.index_mut.ensures.value
    c.in_ok-push.ensures.items in
    subst (λ (gs : List (List ℕ)). AddsEdges (λ e. (c.args.from ≡ Some e.0) × (e.1 ≡ c.args.to)) c.args.self.now gs) (sym is)
    (adds_edge (λ e. (c.args.from ≡ Some e.0) × (e.1 ≡ c.args.to)) c.args.self.now c.in-Some.from c.args.to inside
    (λ e. ((λ (s, t). (same_Some c.in-Some.from e.0 (sym c.in-Some.is ∙ s), t)), (λ (s, t). (c.in-Some.is ∙ ap Some s, t)))))
