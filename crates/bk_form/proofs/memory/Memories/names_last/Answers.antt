use Rattle.bk_func.specs.Form.States.{IsLastState, Names}
use Rattle.bk_form.specs.Memories.{func_of}
use Rattle.bk_form.specs.Names.{measure}
use Rattle.bk_form.proofs.Copied.{values_named}
use Rattle.bk_form.proofs.Remembered.{along, meets}
use Rattle.bk_form.proofs.memory.Memories.names_last.Goals as goal

pub returns : goal.returns
returns c = λ b eb. along c.is_same.ensures (meets (func_of c.args.self.now) (values_named (measure c.args.self.now.flow.now.scope) (func_of c.args.self.now) c.requires.memories.flow.named) (Names (func_of c.args.self.now) c.args.value.now) (IsLastState (func_of c.args.self.now) b) c.named-name.result c.last_state-last.result c.named-name.ensures (c.last_state-last.ensures b eb))
