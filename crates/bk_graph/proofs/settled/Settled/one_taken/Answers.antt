use Rattle.std.proofs.Common.{◌≡◌, ◌∙◌, sym, ap, subst, ℕ, List, [], Some, None, rules}
use Rattle.std.specs.Option.{option_copied}
use Rattle.std.specs.Prelude.{slice_get, slice_index_or, IfSome}
use Rattle.bk_graph.specs.declared.graph.Edge.{Edge}
use Rattle.bk_graph.specs.Nodes.{NodeRecord}
use Rattle.bk_graph.specs.Reads.{facts, tables_in}
use Rattle.bk_graph.specs.Settling.{IsOther}
use Rattle.bk_graph.proofs.Ending.{phi_done, lent}
use Rattle.bk_graph.proofs.settled.Settled.one_taken.Goals as goal

pub returns-clause-none : goal.returns-clause-none
returns-clause-none c = λ e.
    let s = c.args.self.now in
    let n = c.in-Some.node.now in
    let p = c.args.place in
    let i : slice_get s.graph.now.nodes.items p ≡ Some n =
    ap (λ (xs : List NodeRecord). slice_get xs p) (sym c.deref.ensures.value) ∙ sym (lent c.deref.result.now p c.get.result c.get.ensures.lookup) ∙ ap option_copied c.in-Some.is in
    let own : (facts s).root p ≡ p = search rules in
    let edges : c.edges_to.result.now ≡ slice_index_or s.graph.now.edges n.block [] = c.edges_to.ensures ∙ ap (λ (x : NodeRecord). slice_index_or s.graph.now.edges x.block []) c.node.view_is in
    let P : List Edge → List ℕ → Type 0 = λ es xs. IfSome c.one_other-other.result (IsOther (facts s) es xs p) in
    let Q : List Edge → List ℕ → Type 0 = λ es xs. c.one_other-other.result ≡ None → (other : ℕ) → ¬ IsOther (facts s) es xs p other in
    let some = subst (λ (es : List Edge). P es (slice_index_or s.graph.now.args p [])) edges (subst (λ (xs : List ℕ). P c.edges_to.result.now xs) c.args_of.ensures c.one_other-other.ensures.some) in
    let none = subst (λ (es : List Edge). Q es (slice_index_or s.graph.now.args p [])) edges (subst (λ (xs : List ℕ). Q c.edges_to.result.now xs) c.args_of.ensures c.one_other-other.ensures.none) in
    phi_done (tables_in s) (facts s) p n i own c.requires.settling.within c.one_other-other.result some none (λ r d. c.if_value.ensures.none e r d)
