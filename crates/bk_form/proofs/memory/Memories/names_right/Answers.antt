use Rattle.std.proofs.Common.{◌∙◌, sym}
use Rattle.std.proofs.lemmas.Bool.{false≢true}
use Rattle.bk_form.specs.Memories.{func_of}
use Rattle.bk_form.specs.Names.{measure}
use Rattle.bk_form.proofs.Remembered.{yes, along, right_apart, right_unreached, right_nothing, right_named, reached_row}
use Rattle.bk_form.proofs.Used.{are_named}
use Rattle.bk_form.proofs.memory.Memories.names_right.Goals as goal

pub returns-then-is_judged_apart : goal.returns-then-is_judged_apart
returns-then-is_judged_apart c = λ b eb. yes (right_apart (func_of c.args.self.now) b c.args.value.now (c.is_judged_apart.ensures.0 c.if-is_judged_apart.true))

pub returns-then-not-is_reached : goal.returns-then-not-is_reached
returns-then-not-is_reached c = λ b eb. yes (right_unreached (func_of c.args.self.now) b c.args.value.now (λ r. false≢true (sym c.if-not-is_reached.true ∙ (c.has-is_reached.ensures ∙ (reached_row (func_of c.args.self.now) (are_named (measure c.args.self.now.flow.now.scope) (func_of c.args.self.now) c.requires.memories.flow.named) c.args.self.now.flow.now.edges c.args.self.now.reached c.requires.memories.flow.edges c.requires.memories.reached c.args.at b eb).1 r))))

pub returns-then-not-names_some : goal.returns-then-not-names_some
returns-then-not-names_some c = λ b eb. yes (right_nothing (func_of c.args.self.now) b c.args.value.now (λ n by. false≢true (sym c.if-not-names_some.true ∙ c.names_some.ensures.1 (n, by))))

pub names_within-requires-clause-reached : goal.names_within-requires-clause-reached
names_within-requires-clause-reached c = λ b eb. (reached_row (func_of c.args.self.now) (are_named (measure c.args.self.now.flow.now.scope) (func_of c.args.self.now) c.requires.memories.flow.named) c.args.self.now.flow.now.edges c.args.self.now.reached c.requires.memories.flow.edges c.requires.memories.reached c.args.at b eb).0 (sym c.has-is_reached.ensures ∙ c.if-not-is_reached.false)

pub names_within-requires-clause-states : goal.names_within-requires-clause-states
names_within-requires-clause-states c = λ b eb. c.requires.states b eb ((reached_row (func_of c.args.self.now) (are_named (measure c.args.self.now.flow.now.scope) (func_of c.args.self.now) c.requires.memories.flow.named) c.args.self.now.flow.now.edges c.args.self.now.reached c.requires.memories.flow.edges c.requires.memories.reached c.args.at b eb).0 (sym c.has-is_reached.ensures ∙ c.if-not-is_reached.false))

pub returns : goal.returns
returns c = λ b eb.
    let (n, by) = c.names_some.ensures.0 c.if-not-names_some.false in
    along (c.names_within.ensures b eb)
    (right_named (func_of c.args.self.now) b c.args.value.now n ((reached_row (func_of c.args.self.now) (are_named (measure c.args.self.now.flow.now.scope) (func_of c.args.self.now) c.requires.memories.flow.named) c.args.self.now.flow.now.edges c.args.self.now.reached c.requires.memories.flow.edges c.requires.memories.reached c.args.at b eb).0 (sym c.has-is_reached.ensures ∙ c.if-not-is_reached.false)) (λ apart. false≢true (sym c.if-is_judged_apart.false ∙ c.is_judged_apart.ensures.1 apart)) by)
