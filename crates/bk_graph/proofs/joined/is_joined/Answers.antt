use Rattle.std.proofs.Common.{◌≡◌, ◌∙◌, ℕ, List, Some, ap, subst}
use Rattle.std.specs.List.{slice_get}
use Rattle.bk_func.specs.Records.{BlockRecord, FuncRecord}
use Rattle.bk_graph.specs.Joining.{AgreesAt}
use Rattle.bk_graph.proofs.Joining.{joined_by}
use Rattle.bk_graph.proofs.joined.is_joined.Goals as goal

pub returns : goal.returns
returns c = λ t.
    let blocks : c.deref-2.result.now ≡ c.args.func.now.blocks = c.deref-2.ensures.value ∙ ap (λ (f : FuncRecord). f.blocks) c.func.view_is in
    joined_by c.args.func.now
    (subst (λ (bs : List BlockRecord). (p : ℕ) (b : BlockRecord) → slice_get bs p ≡ Some b → AgreesAt bs p b) blocks (c.agree-joined.ensures t))
    (c.has_room.ensures c.if-not-has_room.false)
