use Rattle.std.proofs.Common.{◌∙◌, sym}
use Rattle.std.proofs.lemmas.Bool.{false≢true}
use Rattle.bk_form.specs.Memories.{func_of}
use Rattle.bk_form.specs.Names.{measure}
use Rattle.bk_form.proofs.Remembered.{yes, reached_row}
use Rattle.bk_form.proofs.Used.{are_named}
use Rattle.bk_form.proofs.memory.Memories.results_name_last.Goals as goal

pub returns-then-not-makes_result : goal.returns-then-not-makes_result
returns-then-not-makes_result c = λ b eb. yes (λ mk r. absurd (false≢true (sym c.if-not-makes_result.true ∙ c.makes_result.ensures.1 mk)))

pub returns-then-not-is_reached : goal.returns-then-not-is_reached
returns-then-not-is_reached c = λ b eb. yes (λ mk r. absurd (false≢true (sym c.if-not-is_reached.true ∙ (c.has-is_reached.ensures ∙ (reached_row (func_of c.args.self.now) (are_named (measure c.args.self.now.flow.now.scope) (func_of c.args.self.now) c.requires.memories.flow.named) c.args.self.now.flow.now.edges c.args.self.now.reached c.requires.memories.flow.edges c.requires.memories.reached c.args.at b eb).1 r))))

pub names_last-requires-clause-reached : goal.names_last-requires-clause-reached
names_last-requires-clause-reached c = λ b eb. (reached_row (func_of c.args.self.now) (are_named (measure c.args.self.now.flow.now.scope) (func_of c.args.self.now) c.requires.memories.flow.named) c.args.self.now.flow.now.edges c.args.self.now.reached c.requires.memories.flow.edges c.requires.memories.reached c.args.at b eb).0 (sym c.has-is_reached.ensures ∙ c.if-not-is_reached.false)

pub returns : goal.returns
returns c = λ b eb. let (to, from) = c.names_last.ensures b eb in ((λ t mk r. to t), (λ h. from (h (c.makes_result.ensures.0 c.if-not-makes_result.false) ((reached_row (func_of c.args.self.now) (are_named (measure c.args.self.now.flow.now.scope) (func_of c.args.self.now) c.requires.memories.flow.named) c.args.self.now.flow.now.edges c.args.self.now.reached c.requires.memories.flow.edges c.requires.memories.reached c.args.at b eb).0 (sym c.has-is_reached.ensures ∙ c.if-not-is_reached.false)))))
