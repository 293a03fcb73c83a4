use Rattle.std.proofs.Common.{◌≡◌, ◌∙◌, sym, ap, subst, ◌↔◌}
use Rattle.std.specs.Bool.{IsTrue}
use Rattle.std.proofs.lemmas.Option.{same_Some}
use Rattle.bk_func.specs.Records.{ValueRecord}
use Rattle.bk_func.specs.Form.Text.{IsPhi}
use Rattle.bk_form.specs.Memories.{func_of}
use Rattle.bk_form.specs.Places.{NodeRecord}
use Rattle.bk_form.proofs.Remembered.{seen, unseen}
use Rattle.bk_form.proofs.memory.Memories.is_phi_at.Goals as goal

pub returns-in_default : goal.returns-in_default
returns-in_default c = λ m em. absurd (unseen (func_of c.args.self.now) c.deref.result.now (c.deref.ensures.value ∙ c.requires.memories.flow.nodes) c.args.place c.get-found.result c.get-found.ensures.lookup c.in_default.is m em)

pub returns : goal.returns
returns c = λ m em.
    let here = seen (func_of c.args.self.now) c.deref.result.now (c.deref.ensures.value ∙ c.requires.memories.flow.nodes) c.args.place c.get-found.result c.get-found.ensures.lookup c.in-Some.node c.in-Some.is in
    let value : c.node.inside.value.now ≡ m.value = ap (λ (x : NodeRecord). x.value) (c.node.view_is ∙ same_Some c.in-Some.node.now m (sym here ∙ em)) in
    subst (λ (v : ValueRecord). IsTrue c.is_phi.result ↔ IsPhi v) value c.is_phi.ensures
