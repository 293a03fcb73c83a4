use Rattle.std.proofs.Common.{◌≡◌, ◌∙◌, sym, ap, subst, ◌↔◌}
use Rattle.std.specs.Bool.{IsTrue}
use Rattle.std.proofs.lemmas.Bool.{false≢true}
use Rattle.std.proofs.lemmas.Option.{same_Some}
use Rattle.bk_func.specs.Records.{ValueRecord}
use Rattle.bk_func.specs.Form.Text.{HasValue}
use Rattle.bk_form.specs.Memories.{NamesLast, func_of}
use Rattle.bk_form.specs.Names.{measure}
use Rattle.bk_form.specs.Places.{NodeRecord}
use Rattle.bk_form.proofs.Copied.{stands_at, values_named}
use Rattle.bk_form.proofs.Remembered.{seen, unseen, yes, along, ends_home, ends_results, ends_other, ends_memory}
use Rattle.bk_form.proofs.Used.{are_named}
use Rattle.bk_form.proofs.memory.Memories.ends_with.Goals as goal

pub returns-in_default : goal.returns-in_default
returns-in_default c = λ m em. absurd (unseen (func_of c.args.self.now) c.deref.result.now (c.deref.ensures.value ∙ c.requires.memories.flow.nodes) c.args.place c.get-found.result c.get-found.ensures.lookup c.in_default.is m em)

pub names_last-requires-clause-value : goal.names_last-requires-clause-value
names_last-requires-clause-value c = let here = seen (func_of c.args.self.now) c.deref.result.now (c.deref.ensures.value ∙ c.requires.memories.flow.nodes) c.args.place c.get-found.result c.get-found.ensures.lookup c.in-Some.node c.in-Some.is in
    let (b, has) = stands_at (func_of c.args.self.now) c.args.place c.in-Some.node.now here in
    (b, subst (λ (v : ValueRecord). HasValue (func_of c.args.self.now) b v) (sym (ap (λ (x : NodeRecord). x.value) c.node.view_is)) has)

pub returns-then-node-at : goal.returns-then-node-at
returns-then-node-at c = λ m em b eb.
    let here = seen (func_of c.args.self.now) c.deref.result.now (c.deref.ensures.value ∙ c.requires.memories.flow.nodes) c.args.place c.get-found.result c.get-found.ensures.lookup c.in-Some.node c.in-Some.is in
    let value : c.node.inside.value.now ≡ m.value = ap (λ (x : NodeRecord). x.value) (c.node.view_is ∙ same_Some c.in-Some.node.now m (sym here ∙ em)) in
    let home : c.node.inside.home ≡ m.home = ap (λ (x : NodeRecord). x.home) (c.node.view_is ∙ same_Some c.in-Some.node.now m (sym here ∙ em)) in
    yes (ends_home (func_of c.args.self.now) (values_named (measure c.args.self.now.flow.now.scope) (func_of c.args.self.now) c.requires.memories.flow.named) c.args.at c.args.place b m eb em (ap (λ (v : ValueRecord). v.op.family) (sym value) ∙ c.makes_result.ensures.0 c.if-makes_result.true) (sym home ∙ c.if-node-at.true))

pub returns-then-makes_result : goal.returns-then-makes_result
returns-then-makes_result c = λ m em b eb.
    let here = seen (func_of c.args.self.now) c.deref.result.now (c.deref.ensures.value ∙ c.requires.memories.flow.nodes) c.args.place c.get-found.result c.get-found.ensures.lookup c.in-Some.node c.in-Some.is in
    let value : c.node.inside.value.now ≡ m.value = ap (λ (x : NodeRecord). x.value) (c.node.view_is ∙ same_Some c.in-Some.node.now m (sym here ∙ em)) in
    let home : c.node.inside.home ≡ m.home = ap (λ (x : NodeRecord). x.home) (c.node.view_is ∙ same_Some c.in-Some.node.now m (sym here ∙ em)) in
    along (subst (λ (v : ValueRecord). IsTrue c.names_last.result ↔ NamesLast (func_of c.args.self.now) b v) value (c.names_last.ensures b eb))
    (ends_results (func_of c.args.self.now) (are_named (measure c.args.self.now.flow.now.scope) (func_of c.args.self.now) c.requires.memories.flow.named) (values_named (measure c.args.self.now.flow.now.scope) (func_of c.args.self.now) c.requires.memories.flow.named) c.args.at c.args.place b m eb em (ap (λ (v : ValueRecord). v.op.family) (sym value) ∙ c.makes_result.ensures.0 c.if-makes_result.true) (λ e. c.if-node-at.false (home ∙ e)))

pub returns-then-not-is_memory : goal.returns-then-not-is_memory
returns-then-not-is_memory c = λ m em b eb.
    let here = seen (func_of c.args.self.now) c.deref.result.now (c.deref.ensures.value ∙ c.requires.memories.flow.nodes) c.args.place c.get-found.result c.get-found.ensures.lookup c.in-Some.node c.in-Some.is in
    let value : c.node.inside.value.now ≡ m.value = ap (λ (x : NodeRecord). x.value) (c.node.view_is ∙ same_Some c.in-Some.node.now m (sym here ∙ em)) in
    yes (ends_other (func_of c.args.self.now) (values_named (measure c.args.self.now.flow.now.scope) (func_of c.args.self.now) c.requires.memories.flow.named) c.args.place b m em (λ e. false≢true (sym c.if-makes_result.false ∙ c.makes_result.ensures.1 (ap (λ (v : ValueRecord). v.op.family) value ∙ e)))
    (λ e. false≢true (sym c.if-not-is_memory.true ∙ c.is_memory.ensures.1 (ap (λ (v : ValueRecord). v.ty) value ∙ e))))

pub returns : goal.returns
returns c = λ m em b eb.
    let here = seen (func_of c.args.self.now) c.deref.result.now (c.deref.ensures.value ∙ c.requires.memories.flow.nodes) c.args.place c.get-found.result c.get-found.ensures.lookup c.in-Some.node c.in-Some.is in
    let value : c.node.inside.value.now ≡ m.value = ap (λ (x : NodeRecord). x.value) (c.node.view_is ∙ same_Some c.in-Some.node.now m (sym here ∙ em)) in
    along c.is_at.ensures (ends_memory (func_of c.args.self.now) (values_named (measure c.args.self.now.flow.now.scope) (func_of c.args.self.now) c.requires.memories.flow.named) c.args.place b m em (λ e. false≢true (sym c.if-makes_result.false ∙ c.makes_result.ensures.1 (ap (λ (v : ValueRecord). v.op.family) value ∙ e)))
    (ap (λ (v : ValueRecord). v.ty) (sym value) ∙ c.is_memory.ensures.0 c.if-not-is_memory.false) c.last_state-last.result (c.last_state-last.ensures b eb))
