use Rattle.std.proofs.Common.{◌∙◌, sym, ap, subst}
use Rattle.std.proofs.lemmas.Option.{same_Some}
use Rattle.bk_func.specs.Records.{BlockRecord}
use Rattle.bk_func.specs.Form.Walks.{IsReached}
use Rattle.bk_places.proofs.Elements.{none_says, some_says}
use Rattle.bk_form.specs.Memories.{func_of}
use Rattle.bk_form.specs.Names.{measure}
use Rattle.bk_form.proofs.Remembered.{yes, along, control_none, control_rootless, control_root}
use Rattle.bk_form.proofs.Used.{control_number}
use Rattle.bk_form.proofs.memory.Memories.control_holds.Goals as goal

pub returns-in_default : goal.returns-in_default
returns-in_default c = yes (control_none (func_of c.args.self.now) c.args.block.now (sym (ap (λ v. v.control) c.block.view_is) ∙ c.in_default.is))

pub root-root-requires-clause-number : goal.root-root-requires-clause-number
root-root-requires-clause-number c = control_number (measure c.args.self.now.flow.now.scope) (func_of c.args.self.now) c.requires.memories.flow.named c.args.at c.args.block.now c.in-Some.id c.requires.block (sym (ap (λ v. v.control) c.block.view_is) ∙ c.in-Some.is)

pub returns-in_default-root : goal.returns-in_default-root
returns-in_default-root c = yes (control_rootless (func_of c.args.self.now) c.args.block.now c.in-Some.id (sym (ap (λ v. v.control) c.block.view_is) ∙ c.in-Some.is) (none_says _ _ c.root-root.result c.in_default-root.is c.root-root.ensures))

pub ends_with-requires-clause-reached : goal.ends_with-requires-clause-reached
ends_with-requires-clause-reached c = λ b eb. subst (λ (x : BlockRecord). IsReached (func_of c.args.self.now) x) (same_Some c.args.block.now b (sym c.requires.block ∙ eb)) c.requires.reached

pub returns : goal.returns
returns c = let (m, em, says) = some_says _ _ c.root-root.result c.in-Some-root.place c.in-Some-root.is c.root-root.ensures in
    along (c.ends_with.ensures m em c.args.block.now c.requires.block) (control_root (func_of c.args.self.now) c.args.block.now c.in-Some.id m (sym (ap (λ v. v.control) c.block.view_is) ∙ c.in-Some.is) says)
