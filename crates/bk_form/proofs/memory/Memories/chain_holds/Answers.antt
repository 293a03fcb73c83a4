use Rattle.std.proofs.Common.{inl}
use Rattle.bk_places.proofs.Elements.{contains_at}
use Rattle.bk_form.specs.Memories.{func_of}
use Rattle.bk_form.specs.Names.{measure}
use Rattle.bk_form.proofs.Copied.{values_named}
use Rattle.bk_form.proofs.Remembered.{yes, no, chain_starts, chain_broken}
use Rattle.bk_form.proofs.memory.Memories.chain_holds.Goals as goal

pub returns-in-Empty : goal.returns-in-Empty
returns-in-Empty c = λ b eb. yes (inl (c.in-Empty.ensures b eb))

pub returns-in-Linked : goal.returns-in-Linked
returns-in-Linked c = λ b eb.
    chain_starts (func_of c.args.self.now) (values_named (measure c.args.self.now.flow.now.scope) (func_of c.args.self.now) c.requires.memories.flow.named) c.args.self.now.chains.items c.requires.memories.chains b (contains_at (func_of c.args.self.now).blocks c.args.at b eb) c.in-Linked.first _ (c.in-Linked.ensures b eb) c.starts.result
    (λ m em inside. c.starts.ensures m em b eb inside)

pub returns-in-Broken : goal.returns-in-Broken
returns-in-Broken c = λ b eb. no (chain_broken (func_of c.args.self.now) b (c.in-Broken.ensures b eb))
