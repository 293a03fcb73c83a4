use Rattle.std.proofs.Common.{◌≡◌, sym, subst, ℕ, ◌↔◌, Option, Some}
use Rattle.bk_func.specs.Form.Text.{Defines}
use Rattle.bk_form.specs.Memories.{func_of}
use Rattle.bk_form.specs.Names.{measure}
use Rattle.bk_form.proofs.Copied.{values_named}
use Rattle.bk_form.proofs.Remembered.{along, defines_is}
use Rattle.bk_form.proofs.Used.{are_named}
use Rattle.bk_form.proofs.memory.Memories.stands_in.Goals as goal

pub returns : goal.returns
returns c = λ b eb. along c.is_at.ensures (subst (λ (o : Option ℕ). (o ≡ Some c.args.at) ↔ Defines b c.args.id) (sym c.home-home.ensures) (defines_is (func_of c.args.self.now) (are_named (measure c.args.self.now.flow.now.scope) (func_of c.args.self.now) c.requires.memories.flow.named) (values_named (measure c.args.self.now.flow.now.scope) (func_of c.args.self.now) c.requires.memories.flow.named) c.args.id c.args.at b c.requires.number eb))
