use Rattle.bk_form.specs.Memories.{func_of}
use Rattle.bk_form.specs.Names.{measure}
use Rattle.bk_form.proofs.Copied.{values_named}
use Rattle.bk_form.proofs.Remembered.{no, chain_broken, phi_linked, no_phi}
use Rattle.bk_form.proofs.memory.Memories.has_phi.Goals as goal

pub returns-in-Linked : goal.returns-in-Linked
returns-in-Linked c = λ b eb. phi_linked (func_of c.args.self.now) (values_named (measure c.args.self.now.flow.now.scope) (func_of c.args.self.now) c.requires.memories.flow.named) b c.in-Linked.first _ (c.in-Linked.ensures b eb) c.is_phi_at.result c.is_phi_at.ensures

pub returns-in-Empty : goal.returns-in-Empty
returns-in-Empty c = λ b eb. no (no_phi (func_of c.args.self.now) b (c.in-Empty.ensures b eb))

pub returns-in-Broken : goal.returns-in-Broken
returns-in-Broken c = λ b eb. absurd (chain_broken (func_of c.args.self.now) b (c.in-Broken.ensures b eb) (c.requires.states b eb))
