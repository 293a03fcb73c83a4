use Rattle.std.proofs.Common.{◌≡◌, ◌∙◌, refl, sym, ap, subst, ℕ, List, Some, not, rules}
use Rattle.std.specs.Option.{option_copied}
use Rattle.std.specs.Prelude.{slice_get}
use Rattle.bk_graph.specs.declared.graph.Edge.{Edge}
use Rattle.bk_graph.specs.Clean.{is_phi}
use Rattle.bk_graph.specs.Cleaned.{takes, IsNeeded, argument}
use Rattle.bk_graph.specs.Facts.{edge_stays}
use Rattle.bk_graph.specs.Known.{stays_there}
use Rattle.bk_graph.specs.Nodes.{NodeRecord}
use Rattle.bk_graph.specs.Reads.{facts, tables_in}
use Rattle.bk_graph.specs.Tables.{edges_to}
use Rattle.bk_graph.proofs.Ending.{lent}
use Rattle.bk_graph.proofs.Marking.{takes_all, takes_over, arg_untaken}
use Rattle.bk_graph.proofs.needed.Needed.mark_arg.Goals as goal
use Rattle.bk_graph.proofs.needed.Needed.mark_arg.Goals.{then-not-is_phi, else-not-is_phi}

pub mark-requires-clause-needed : goal.mark-requires-clause-needed
mark-requires-clause-needed c =
    let s = c.args.self.now.settled.now in
    let n = c.in-Some.node.now in
    let p = c.args.place in
    let k = c.args.index in
    let i : slice_get s.graph.now.nodes.items p ≡ Some n =
    ap (λ (xs : List NodeRecord). slice_get xs p) (sym c.deref.ensures.value) ∙ sym (lent c.deref.result.now p c.get.result c.get.ensures.lookup) ∙ ap option_copied c.in-Some.is in
    let phi : c.is_phi.result ≡ is_phi n.value.op.family = search rules in
    let taken : takes (tables_in s) (facts s) n k ≡ c.if-not-is_phi.value = elim c.if-not-is_phi.branch [
      | then-not-is_phi w ↦ takes_all (tables_in s) (facts s) n k c.is_phi.result phi w.if-not-is_phi.true ∙ sym (ap not w.if-not-is_phi.true) ∙ sym w.value-is
      | else-not-is_phi w ↦
          takes_over (tables_in s) (facts s) n k c.is_phi.result phi w.if-not-is_phi.false
          ∙ sym (ap (λ (es : List Edge). stays_there (edge_stays (facts s)) (slice_get es k)) (w.edges_to.ensures ∙ ap (λ (x : NodeRecord). edges_to (tables_in s) x.block) c.node.view_is))
          ∙ sym w.has_edge_at.ensures ∙ sym w.value-is
    ] in
    let P : ℕ → Type 0 = λ r. IsNeeded (tables_in s) (facts s) r in
    subst P (sym c.root.ensures) (argument p k c.args.arg n (c.requires.marks.needs p c.requires.needed) i c.requires.arg (taken ∙ c.if-has_edge_at.true))

pub returns-else-has_edge_at-clause-none : goal.returns-else-has_edge_at-clause-none
returns-else-has_edge_at-clause-none c = λ e.
    let s = c.args.self.now.settled.now in
    let n = c.in-Some.node.now in
    let p = c.args.place in
    let k = c.args.index in
    let i : slice_get s.graph.now.nodes.items p ≡ Some n =
    ap (λ (xs : List NodeRecord). slice_get xs p) (sym c.deref.ensures.value) ∙ sym (lent c.deref.result.now p c.get.result c.get.ensures.lookup) ∙ ap option_copied c.in-Some.is in
    let phi : c.is_phi.result ≡ is_phi n.value.op.family = search rules in
    let taken : takes (tables_in s) (facts s) n k ≡ c.if-not-is_phi.value = elim c.if-not-is_phi.branch [
      | then-not-is_phi w ↦ takes_all (tables_in s) (facts s) n k c.is_phi.result phi w.if-not-is_phi.true ∙ sym (ap not w.if-not-is_phi.true) ∙ sym w.value-is
      | else-not-is_phi w ↦
          takes_over (tables_in s) (facts s) n k c.is_phi.result phi w.if-not-is_phi.false
          ∙ sym (ap (λ (es : List Edge). stays_there (edge_stays (facts s)) (slice_get es k)) (w.edges_to.ensures ∙ ap (λ (x : NodeRecord). edges_to (tables_in s) x.block) c.node.view_is))
          ∙ sym w.has_edge_at.ensures ∙ sym w.value-is
    ] in
    (refl, λ m j f l. absurd (arg_untaken (tables_in s) (facts s) n m p k i j (taken ∙ c.if-has_edge_at.false) f))
