use Rattle.std.proofs.Common.{◌==◌, List, IsSome, position, sym, ◌∙◌, ap, subst}
use Rattle.std.specs.List.{find}
use Rattle.bk_func.specs.Records.{BlockRecord, FuncRecord}
use Rattle.bk_func.specs.Edits.{successor_in}
use Rattle.bk_func.proofs.edits.split_edge.Goals as goal

pub edge-to-requires-clause-successor : goal.edge-to-requires-clause-successor
edge-to-requires-clause-successor c =
    let P : List BlockRecord → Type 0 =
    λ bs. IsSome (position (λ b. b.id == successor_in (find (λ b. b.id == c.args.from) bs) c.args.index) bs)
    in
    let blocks : FuncRecord → List BlockRecord = λ f. f.blocks in
    subst P (sym (c.deref.ensures.value ∙ ap blocks c.func.view_is)) c.requires.there.successor
