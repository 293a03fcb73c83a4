use Rattle.std.proofs.Common.{◌∙◌, sym}
use Rattle.bk_form.specs.Memories.{func_of}
use Rattle.bk_form.proofs.Remembered.{root_is, rootless}
use Rattle.bk_form.proofs.memory.Memories.root.Goals as goal

pub returns-in_default : goal.returns-in_default
returns-in_default c = absurd (rootless (func_of c.args.self.now) c.args.id c.requires.number (sym (c.value-found.ensures ∙ c.requires.memories.flow.scope.numbers.value c.args.id) ∙ c.in_default.is))

pub returns : goal.returns
returns c = root_is (func_of c.args.self.now) c.args.self.now.roots.now c.requires.memories.roots c.args.id c.in-Some.place c.requires.number (sym (c.value-found.ensures ∙ c.requires.memories.flow.scope.numbers.value c.args.id) ∙ c.in-Some.is) c.entry.result c.entry.ensures
