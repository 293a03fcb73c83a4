use Rattle.std.proofs.Common.{◌≡◌, ◌∙◌, sym, ap, subst, ℕ, ◌⊎◌, get_or, Option, None}
use Rattle.std.proofs.lemmas.Bool.{false≢true}
use Rattle.std.proofs.lemmas.Option.{same_Some}
use Rattle.bk_ops.specs.declared.family.Family.TheVariants.{InitMem}
use Rattle.bk_func.specs.Records.{ValueRecord}
use Rattle.bk_func.specs.Form.Text.{HasValue, IsPhi}
use Rattle.bk_func.specs.Form.States.{IsFirstState, Names}
use Rattle.bk_places.proofs.Elements.{contains_at}
use Rattle.bk_form.specs.Carried.{IsPlaceOf}
use Rattle.bk_form.specs.Memories.{func_of}
use Rattle.bk_form.specs.Naming.{NamesIf}
use Rattle.bk_form.specs.Names.{measure}
use Rattle.bk_form.specs.Places.{NodeRecord}
use Rattle.bk_form.proofs.Copied.{stands_at, values_named}
use Rattle.bk_form.proofs.Remembered.{seen, unseen, yes, along, meets, starts_alone, starts_named}
use Rattle.bk_form.proofs.memory.Memories.starts.Goals as goal

pub returns-in_default : goal.returns-in_default
returns-in_default c = λ m em. absurd (unseen (func_of c.args.self.now) c.deref.result.now (c.deref.ensures.value ∙ c.requires.memories.flow.nodes) c.args.first c.get-found.result c.get-found.ensures.lookup c.in_default.is m em)

pub returns-then-starts_alone : goal.returns-then-starts_alone
returns-then-starts_alone c = λ m em b eb inside.
    let here = seen (func_of c.args.self.now) c.deref.result.now (c.deref.ensures.value ∙ c.requires.memories.flow.nodes) c.args.first c.get-found.result c.get-found.ensures.lookup c.in-Some.node c.in-Some.is in
    let value : c.node.inside.value.now ≡ m.value = ap (λ (x : NodeRecord). x.value) (c.node.view_is ∙ same_Some c.in-Some.node.now m (sym here ∙ em)) in
    yes (starts_alone (func_of c.args.self.now) b m.value (contains_at (func_of c.args.self.now).blocks c.args.at b eb, inside)
    (subst (λ (v : ValueRecord). IsPhi v ⊎ (v.op.family ≡ InitMem)) value (c.starts_alone.ensures.0 c.if-starts_alone.true)))

pub named-name-requires-clause-value : goal.named-name-requires-clause-value
named-name-requires-clause-value c = let here = seen (func_of c.args.self.now) c.deref.result.now (c.deref.ensures.value ∙ c.requires.memories.flow.nodes) c.args.first c.get-found.result c.get-found.ensures.lookup c.in-Some.node c.in-Some.is in
    let (b, has) = stands_at (func_of c.args.self.now) c.args.first c.in-Some.node.now here in
    (b, subst (λ (v : ValueRecord). HasValue (func_of c.args.self.now) b v) (sym (ap (λ (x : NodeRecord). x.value) c.node.view_is)) has)

pub returns : goal.returns
returns c = λ m em b eb inside.
    let here = seen (func_of c.args.self.now) c.deref.result.now (c.deref.ensures.value ∙ c.requires.memories.flow.nodes) c.args.first c.get-found.result c.get-found.ensures.lookup c.in-Some.node c.in-Some.is in
    let value : c.node.inside.value.now ≡ m.value = ap (λ (x : NodeRecord). x.value) (c.node.view_is ∙ same_Some c.in-Some.node.now m (sym here ∙ em)) in
    let name : IsPlaceOf (func_of c.args.self.now) (Names (func_of c.args.self.now) m.value) c.named-name.result = subst (λ (v : ValueRecord). NamesIf (func_of c.args.self.now) v c.named-name.result) value c.named-name.ensures in
    let state : IsPlaceOf (func_of c.args.self.now) (IsFirstState (func_of c.args.self.now) b) c.entry-state.result =
    subst (λ (o : Option ℕ). IsPlaceOf (func_of c.args.self.now) (IsFirstState (func_of c.args.self.now) b) o) (sym (c.entry-state.ensures ∙ ap (λ us. get_or us c.args.at None) c.deref-2.ensures.value))
    (c.requires.memories.firsts.each c.args.at b eb (c.requires.reached b eb)) in
    starts_named (func_of c.args.self.now) (values_named (measure c.args.self.now.flow.now.scope) (func_of c.args.self.now) c.requires.memories.flow.named) b m.value (contains_at (func_of c.args.self.now).blocks c.args.at b eb, inside)
    (λ alone. false≢true (sym c.if-starts_alone.false ∙ c.starts_alone.ensures.1 (subst (λ (v : ValueRecord). IsPhi v ⊎ (v.op.family ≡ InitMem)) (sym value) alone))) c.is_same.result
    (along c.is_same.ensures (meets (func_of c.args.self.now) (values_named (measure c.args.self.now.flow.now.scope) (func_of c.args.self.now) c.requires.memories.flow.named) (Names (func_of c.args.self.now) m.value) (IsFirstState (func_of c.args.self.now) b) c.named-name.result c.entry-state.result name state))
