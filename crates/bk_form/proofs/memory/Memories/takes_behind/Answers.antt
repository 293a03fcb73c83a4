use Rattle.std.proofs.Common.{◌∙◌, sym, true}
use Rattle.std.proofs.lemmas.Bool.{false≢true}
use Rattle.bk_func.specs.Form.States.{IsLastState, StandsFor}
use Rattle.bk_form.specs.Memories.{TakesLast, func_of}
use Rattle.bk_form.specs.Names.{measure}
use Rattle.bk_form.proofs.Copied.{values_named}
use Rattle.bk_form.proofs.Remembered.{yes, along, meets, behind_is, behind_none, reached_row}
use Rattle.bk_form.proofs.Used.{are_named}
use Rattle.bk_form.proofs.memory.Memories.takes_behind.Goals as goal

pub returns-in_default : goal.returns-in_default
returns-in_default c = yes (λ p same has r. absurd (behind_none (func_of c.args.self.now) (are_named (measure c.args.self.now.flow.now.scope) (func_of c.args.self.now) c.requires.memories.flow.named) c.args.pred (sym c.place_of-place.ensures ∙ c.in_default.is) p same has))

pub returns-then-not-is_reached : goal.returns-then-not-is_reached
returns-then-not-is_reached c = behind_is (func_of c.args.self.now) (are_named (measure c.args.self.now.flow.now.scope) (func_of c.args.self.now) c.requires.memories.flow.named) (λ b. TakesLast (func_of c.args.self.now) b c.args.id) c.args.pred c.in-Some.at (sym c.place_of-place.ensures ∙ c.in-Some.is) true
    (λ b eb. yes (λ r. absurd (false≢true (sym c.if-not-is_reached.true ∙ (c.has-is_reached.ensures ∙ (reached_row (func_of c.args.self.now) (are_named (measure c.args.self.now.flow.now.scope) (func_of c.args.self.now) c.requires.memories.flow.named) c.args.self.now.flow.now.edges c.args.self.now.reached c.requires.memories.flow.edges c.requires.memories.reached c.in-Some.at b eb).1 r)))))

pub last_state-last-requires-clause-reached : goal.last_state-last-requires-clause-reached
last_state-last-requires-clause-reached c = λ b eb. (reached_row (func_of c.args.self.now) (are_named (measure c.args.self.now.flow.now.scope) (func_of c.args.self.now) c.requires.memories.flow.named) c.args.self.now.flow.now.edges c.args.self.now.reached c.requires.memories.flow.edges c.requires.memories.reached c.in-Some.at b eb).0 (sym c.has-is_reached.ensures ∙ c.if-not-is_reached.false)

pub returns : goal.returns
returns c = behind_is (func_of c.args.self.now) (are_named (measure c.args.self.now.flow.now.scope) (func_of c.args.self.now) c.requires.memories.flow.named) (λ b. TakesLast (func_of c.args.self.now) b c.args.id) c.args.pred c.in-Some.at (sym c.place_of-place.ensures ∙ c.in-Some.is) c.is_same.result
    (λ b eb.
    let (to, from) = along c.is_same.ensures (meets (func_of c.args.self.now) (values_named (measure c.args.self.now.flow.now.scope) (func_of c.args.self.now) c.requires.memories.flow.named) (StandsFor (func_of c.args.self.now) c.args.id) (IsLastState (func_of c.args.self.now) b) c.root-root.result c.last_state-last.result c.root-root.ensures (c.last_state-last.ensures b eb)) in
    ((λ t r. to t), (λ h. from (h ((reached_row (func_of c.args.self.now) (are_named (measure c.args.self.now.flow.now.scope) (func_of c.args.self.now) c.requires.memories.flow.named) c.args.self.now.flow.now.edges c.args.self.now.reached c.requires.memories.flow.edges c.requires.memories.reached c.in-Some.at b eb).0 (sym c.has-is_reached.ensures ∙ c.if-not-is_reached.false))))))
