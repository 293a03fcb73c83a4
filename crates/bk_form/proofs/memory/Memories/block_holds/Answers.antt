use Rattle.std.proofs.Common.{◌∙◌, sym, ap, subst}
use Rattle.std.specs.List.{slice_get}
use Rattle.std.proofs.lemmas.Bool.{false≢true}
use Rattle.std.proofs.lemmas.Option.{same_Some}
use Rattle.bk_func.specs.Records.{BlockRecord}
use Rattle.bk_func.specs.Form.Walks.{IsReached}
use Rattle.bk_form.specs.Memories.{func_of}
use Rattle.bk_form.specs.Names.{measure}
use Rattle.bk_form.proofs.Remembered.{yes, no, reached_row}
use Rattle.bk_form.proofs.Used.{are_named}
use Rattle.bk_form.proofs.Walked.{same_place}
use Rattle.bk_form.proofs.memory.Memories.block_holds.Goals as goal

pub returns-then-not-begins : goal.returns-then-not-begins
returns-then-not-begins c = no (λ keeps. false≢true (sym c.if-not-begins.true ∙ c.begins.ensures.1 (λ zero. keeps.first (ap (λ k. slice_get (func_of c.args.self.now).blocks k) (sym zero) ∙ c.requires.block))))

pub returns-then-not-is_reached : goal.returns-then-not-is_reached
returns-then-not-is_reached c = yes (record {
  first = λ entry. c.begins.ensures.0 c.if-not-begins.false (same_place (func_of c.args.self.now) (are_named (measure c.args.self.now.flow.now.scope) (func_of c.args.self.now) c.requires.memories.flow.named) c.args.at 0 c.args.block.now c.requires.block entry);
  chain = λ r. absurd (false≢true (sym c.if-not-is_reached.true ∙ (c.has-is_reached.ensures ∙ (reached_row (func_of c.args.self.now) (are_named (measure c.args.self.now.flow.now.scope) (func_of c.args.self.now) c.requires.memories.flow.named) c.args.self.now.flow.now.edges c.args.self.now.reached c.requires.memories.flow.edges c.requires.memories.reached c.args.at c.args.block.now c.requires.block).1 r)));
  last = λ r. absurd (false≢true (sym c.if-not-is_reached.true ∙ (c.has-is_reached.ensures ∙ (reached_row (func_of c.args.self.now) (are_named (measure c.args.self.now.flow.now.scope) (func_of c.args.self.now) c.requires.memories.flow.named) c.args.self.now.flow.now.edges c.args.self.now.reached c.requires.memories.flow.edges c.requires.memories.reached c.args.at c.args.block.now c.requires.block).1 r)));
})

pub chain_holds-chain_holds-requires-clause-reached : goal.chain_holds-chain_holds-requires-clause-reached
chain_holds-chain_holds-requires-clause-reached c = λ b eb. subst (λ (x : BlockRecord). IsReached (func_of c.args.self.now) x) (same_Some c.args.block.now b (sym c.requires.block ∙ eb)) ((reached_row (func_of c.args.self.now) (are_named (measure c.args.self.now.flow.now.scope) (func_of c.args.self.now) c.requires.memories.flow.named) c.args.self.now.flow.now.edges c.args.self.now.reached c.requires.memories.flow.edges c.requires.memories.reached c.args.at c.args.block.now c.requires.block).0 (sym c.has-is_reached.ensures ∙ c.if-not-is_reached.false))

pub returns-then-not-chain_holds : goal.returns-then-not-chain_holds
returns-then-not-chain_holds c = no (λ keeps. false≢true (sym c.if-not-chain_holds.true ∙ (c.chain_holds-chain_holds.ensures c.args.block.now c.requires.block).1 (keeps.chain ((reached_row (func_of c.args.self.now) (are_named (measure c.args.self.now.flow.now.scope) (func_of c.args.self.now) c.requires.memories.flow.named) c.args.self.now.flow.now.edges c.args.self.now.reached c.requires.memories.flow.edges c.requires.memories.reached c.args.at c.args.block.now c.requires.block).0 (sym c.has-is_reached.ensures ∙ c.if-not-is_reached.false)))))

pub control_holds-requires-clause-reached : goal.control_holds-requires-clause-reached
control_holds-requires-clause-reached c = (reached_row (func_of c.args.self.now) (are_named (measure c.args.self.now.flow.now.scope) (func_of c.args.self.now) c.requires.memories.flow.named) c.args.self.now.flow.now.edges c.args.self.now.reached c.requires.memories.flow.edges c.requires.memories.reached c.args.at c.args.block.now c.requires.block).0 (sym c.has-is_reached.ensures ∙ c.if-not-is_reached.false)

pub returns : goal.returns
returns c = (
  λ t. record {
    first = λ entry. c.begins.ensures.0 c.if-not-begins.false (same_place (func_of c.args.self.now) (are_named (measure c.args.self.now.flow.now.scope) (func_of c.args.self.now) c.requires.memories.flow.named) c.args.at 0 c.args.block.now c.requires.block entry);
    chain = λ r. (c.chain_holds-chain_holds.ensures c.args.block.now c.requires.block).0 c.if-not-chain_holds.false;
    last = λ r. c.control_holds.ensures.0 t;
  },
  λ keeps. c.control_holds.ensures.1 (keeps.last ((reached_row (func_of c.args.self.now) (are_named (measure c.args.self.now.flow.now.scope) (func_of c.args.self.now) c.requires.memories.flow.named) c.args.self.now.flow.now.edges c.args.self.now.reached c.requires.memories.flow.edges c.requires.memories.reached c.args.at c.args.block.now c.requires.block).0 (sym c.has-is_reached.ensures ∙ c.if-not-is_reached.false))),
)
