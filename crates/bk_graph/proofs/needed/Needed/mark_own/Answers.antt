use Rattle.std.proofs.Common.{◌≡◌, ◌∙◌, refl, sym, ap, List, Some}
use Rattle.std.specs.Option.{option_copied}
use Rattle.std.specs.Prelude.{slice_get}
use Rattle.bk_graph.specs.Cleaned.{itself}
use Rattle.bk_graph.specs.Kinds.{stays}
use Rattle.bk_graph.specs.Nodes.{NodeRecord}
use Rattle.bk_graph.specs.Reads.{facts, tables_in}
use Rattle.bk_graph.proofs.Ending.{lent}
use Rattle.bk_graph.proofs.Marking.{own_unreached, own_going}
use Rattle.bk_graph.proofs.needed.Needed.mark_own.Goals as goal
use Rattle.bk_graph.proofs.needed.Needed.mark_own.Goals.{else-is_reached-via-then-is_reached+else-stays, else-is_reached-via-else-is_reached}

pub mark-requires-clause-needed : goal.mark-requires-clause-needed
mark-requires-clause-needed c =
    let s = c.args.self.now.settled.now in
    let n = c.in-Some.node.now in
    let p = c.args.place in
    let i : slice_get s.graph.now.nodes.items p ≡ Some n =
    ap (λ (xs : List NodeRecord). slice_get xs p) (sym c.deref.ensures.value) ∙ sym (lent c.deref.result.now p c.get.result c.get.ensures.lookup) ∙ ap option_copied c.in-Some.is in
    let reached = sym (ap (λ (x : NodeRecord). (facts s).reached x.block) c.node.view_is) ∙ sym c.is_reached.ensures ∙ c.if-is_reached.true in
    let stay = sym (ap (λ (x : NodeRecord). stays x.value.op.family x.value.ty) c.node.view_is) ∙ sym c.stays.ensures ∙ c.if-stays.true in
    itself p n i reached stay

pub returns-else-is_reached-clause-none : goal.returns-else-is_reached-clause-none
returns-else-is_reached-clause-none c = λ e.
    let s = c.args.self.now.settled.now in
    let m = c.args.self.now.needed.items in
    let n = c.in-Some.node.now in
    let p = c.args.place in
    let i : slice_get s.graph.now.nodes.items p ≡ Some n =
    ap (λ (xs : List NodeRecord). slice_get xs p) (sym c.deref.ensures.value) ∙ sym (lent c.deref.result.now p c.get.result c.get.ensures.lookup) ∙ ap option_copied c.in-Some.is in
    let block = sym (ap (λ (x : NodeRecord). (facts s).reached x.block) c.node.view_is) ∙ sym c.is_reached.ensures in
    let stay = sym (ap (λ (x : NodeRecord). stays x.value.op.family x.value.ty) c.node.view_is) in (
      refl,
      elim c.else-is_reached.branch [
        | else-is_reached-via-then-is_reached+else-stays w ↦ own_going (tables_in s) (facts s) m p n i (stay ∙ sym w.stays.ensures ∙ w.if-stays.false)
        | else-is_reached-via-else-is_reached w ↦ own_unreached (tables_in s) (facts s) m p n i (block ∙ w.if-is_reached.false)
      ],
    )
