use Rattle.std.proofs.Common.{sym, refl, take}
use Rattle.std.proofs.lemmas.List.{take_all}
use Rattle.std.proofs.lemmas.List.Elements.{All-more, All-same}
use Rattle.bk_func.specs.Form.Parts.{IsValueNumber}
use Rattle.bk_form.proofs.names.Scope.are_values.Goals as goal

pub loop-id-preserved : goal.loop-id-preserved
loop-id-preserved c =
    All-more (IsValueNumber c.args.self.now.func.now) c.args.ids.now c.loop-id.id-index 0 c.loop-id-test.true c.loop-id.invariant (c.is_value.ensures.0 c.if-not-is_value.false)

pub returns : goal.returns
returns c =
    let i = c.loop-id.id-index in
    let ids = c.args.ids.now in
    ((λ _. All-same (IsValueNumber c.args.self.now.func.now) ids (take i ids) (sym (take_all i ids c.loop-id-test.false)) c.loop-id.invariant), (λ _. refl))
