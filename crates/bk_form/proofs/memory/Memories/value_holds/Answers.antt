use Rattle.std.proofs.Common.{◌∙◌, sym, subst}
use Rattle.std.proofs.lemmas.Bool.{false≢true}
use Rattle.std.proofs.lemmas.Option.{same_Some}
use Rattle.bk_func.specs.Records.{BlockRecord}
use Rattle.bk_func.specs.Form.Walks.{IsReached}
use Rattle.bk_func.specs.Form.States.{HasChain}
use Rattle.bk_places.proofs.Elements.{contains_at}
use Rattle.bk_form.specs.Memories.{func_of}
use Rattle.bk_form.specs.Names.{measure}
use Rattle.bk_form.proofs.Copied.{values_named}
use Rattle.bk_form.proofs.Remembered.{no}
use Rattle.bk_form.proofs.StateNames.{first_is}
use Rattle.bk_form.proofs.memory.Memories.value_holds.Goals as goal

pub returns-then-not-is_first : goal.returns-then-not-is_first
returns-then-not-is_first c = no (λ keeps. false≢true (sym c.if-not-is_first.true ∙ c.is_first_init-is_first.ensures.1 (λ init. (first_is (func_of c.args.self.now) (values_named (measure c.args.self.now.flow.now.scope) (func_of c.args.self.now) c.requires.memories.flow.named) c.args.self.now.initial c.requires.memories.initial c.args.block.now c.args.value.now (contains_at (func_of c.args.self.now).blocks c.args.at c.args.block.now c.requires.block, c.requires.value)).1 (keeps.first init))))

pub takes_last_states-takes_last-requires-clause-value : goal.takes_last_states-takes_last-requires-clause-value
takes_last_states-takes_last-requires-clause-value c = (contains_at (func_of c.args.self.now).blocks c.args.at c.args.block.now c.requires.block, c.requires.value)

pub returns-then-not-takes_last : goal.returns-then-not-takes_last
returns-then-not-takes_last c = no (λ keeps. false≢true (sym c.if-not-takes_last.true ∙ c.takes_last_states-takes_last.ensures.1 keeps.phi))

pub is_with_call-is_with_call-requires-clause-value : goal.is_with_call-is_with_call-requires-clause-value
is_with_call-is_with_call-requires-clause-value c = (c.args.block.now, (contains_at (func_of c.args.self.now).blocks c.args.at c.args.block.now c.requires.block, c.requires.value))

pub returns-then-not-is_with_call : goal.returns-then-not-is_with_call
returns-then-not-is_with_call c = no (λ keeps. false≢true (sym c.if-not-is_with_call.true ∙ (c.is_with_call-is_with_call.ensures c.args.block.now c.requires.block).1 keeps.call))

pub returns-then-not-ends_block : goal.returns-then-not-ends_block
returns-then-not-ends_block c = no (λ keeps. false≢true (sym c.if-not-ends_block.true ∙ c.ends_its_block-ends_block.ensures.1 keeps.results))

pub results_name_last-names_last-requires-clause-value : goal.results_name_last-names_last-requires-clause-value
results_name_last-names_last-requires-clause-value c = (c.args.block.now, (contains_at (func_of c.args.self.now).blocks c.args.at c.args.block.now c.requires.block, c.requires.value))

pub returns-then-not-names_last : goal.returns-then-not-names_last
returns-then-not-names_last c = no (λ keeps. false≢true (sym c.if-not-names_last.true ∙ (c.results_name_last-names_last.ensures c.args.block.now c.requires.block).1 keeps.last))

pub names_right-requires-clause-states : goal.names_right-requires-clause-states
names_right-requires-clause-states c = λ b eb r. subst (λ (x : BlockRecord). HasChain (func_of c.args.self.now) x) (same_Some c.args.block.now b (sym c.requires.block ∙ eb))
    (c.requires.states.chain (subst (λ (x : BlockRecord). IsReached (func_of c.args.self.now) x) (sym (same_Some c.args.block.now b (sym c.requires.block ∙ eb))) r))

pub names_right-requires-clause-value : goal.names_right-requires-clause-value
names_right-requires-clause-value c = (c.args.block.now, (contains_at (func_of c.args.self.now).blocks c.args.at c.args.block.now c.requires.block, c.requires.value))

pub returns : goal.returns
returns c = (
  λ t. record {
    first = λ init. (first_is (func_of c.args.self.now) (values_named (measure c.args.self.now.flow.now.scope) (func_of c.args.self.now) c.requires.memories.flow.named) c.args.self.now.initial c.requires.memories.initial c.args.block.now c.args.value.now (contains_at (func_of c.args.self.now).blocks c.args.at c.args.block.now c.requires.block, c.requires.value)).0 (c.is_first_init-is_first.ensures.0 c.if-not-is_first.false init);
    phi = c.takes_last_states-takes_last.ensures.0 c.if-not-takes_last.false;
    call = (c.is_with_call-is_with_call.ensures c.args.block.now c.requires.block).0 c.if-not-is_with_call.false;
    results = c.ends_its_block-ends_block.ensures.0 c.if-not-ends_block.false;
    last = (c.results_name_last-names_last.ensures c.args.block.now c.requires.block).0 c.if-not-names_last.false;
    names = (c.names_right.ensures c.args.block.now c.requires.block).0 t;
  },
  λ keeps. (c.names_right.ensures c.args.block.now c.requires.block).1 keeps.names,
)
