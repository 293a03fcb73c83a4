use Rattle.std.proofs.Common.{sym, refl, take}
use Rattle.std.proofs.lemmas.List.{take_all}
use Rattle.std.proofs.lemmas.List.Elements.{All-more, All-same}
use Rattle.bk_func.specs.Form.Parts.{IsBlockNumber}
use Rattle.bk_form.proofs.names.Scope.are_blocks.Goals as goal

pub loop-id-preserved : goal.loop-id-preserved
loop-id-preserved c =
    All-more (IsBlockNumber c.args.self.now.func.now) c.args.ids.now c.loop-id.id-index 0 c.loop-id-test.true c.loop-id.invariant (c.is_block.ensures.0 c.if-not-is_block.false)

pub returns : goal.returns
returns c =
    let i = c.loop-id.id-index in
    let ids = c.args.ids.now in
    ((λ _. All-same (IsBlockNumber c.args.self.now.func.now) ids (take i ids) (sym (take_all i ids c.loop-id-test.false)) c.loop-id.invariant), (λ _. refl))
