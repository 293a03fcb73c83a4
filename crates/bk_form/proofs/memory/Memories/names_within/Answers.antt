use Rattle.std.proofs.Common.{◌∙◌, sym, ap, subst, ℕ, get_or, Option, None}
use Rattle.std.proofs.lemmas.Bool.{false≢true}
use Rattle.bk_func.specs.Form.States.{IsFirstState}
use Rattle.bk_places.proofs.Elements.{none_says}
use Rattle.bk_form.specs.Carried.{IsPlaceOf}
use Rattle.bk_form.specs.Memories.{func_of}
use Rattle.bk_form.specs.Naming.{NamesIf}
use Rattle.bk_form.specs.Names.{measure}
use Rattle.bk_form.proofs.Copied.{values_named}
use Rattle.bk_form.proofs.Remembered.{yes, no, along, names_nowhere, names_own, names_past, names_first}
use Rattle.bk_form.proofs.memory.Memories.names_within.Goals as goal

pub returns-in_default : goal.returns-in_default
returns-in_default c = λ b eb. no (names_nowhere (func_of c.args.self.now) b c.args.value.now (none_says _ _ c.named-name.result c.in_default.is c.named-name.ensures))

pub returns-then-is_own : goal.returns-then-is_own
returns-then-is_own c = λ b eb.
    yes (names_own (func_of c.args.self.now) c.args.self.now.homes.now c.requires.memories.homes c.args.at c.in-Some.place b c.args.value.now eb (subst (λ (o : Option ℕ). NamesIf (func_of c.args.self.now) c.args.value.now o) c.in-Some.is c.named-name.ensures)
    ((sym c.entry-home.ensures) ∙ c.is_at-is_own.ensures.0 c.if-is_own.true))

pub returns-then-has_phi : goal.returns-then-has_phi
returns-then-has_phi c = λ b eb.
    no (names_past (func_of c.args.self.now) (values_named (measure c.args.self.now.flow.now.scope) (func_of c.args.self.now) c.requires.memories.flow.named) c.args.self.now.homes.now c.requires.memories.homes c.args.at c.in-Some.place b c.args.value.now eb (subst (λ (o : Option ℕ). NamesIf (func_of c.args.self.now) c.args.value.now o) c.in-Some.is c.named-name.ensures) (λ e. false≢true (sym c.if-is_own.false ∙ c.is_at-is_own.ensures.1 (sym (sym c.entry-home.ensures) ∙ e)))
    ((c.has_phi-has_phi.ensures b eb).0 c.if-has_phi.true))

pub returns : goal.returns
returns c = λ b eb.
    let state : IsPlaceOf (func_of c.args.self.now) (IsFirstState (func_of c.args.self.now) b) c.entry-state.result =
    subst (λ (o : Option ℕ). IsPlaceOf (func_of c.args.self.now) (IsFirstState (func_of c.args.self.now) b) o) (sym (c.entry-state.ensures ∙ ap (λ us. get_or us c.args.at None) c.deref.ensures.value))
    (c.requires.memories.firsts.each c.args.at b eb (c.requires.reached b eb)) in
    along c.is_at.ensures (names_first (func_of c.args.self.now) (values_named (measure c.args.self.now.flow.now.scope) (func_of c.args.self.now) c.requires.memories.flow.named) c.args.self.now.homes.now c.requires.memories.homes c.args.at c.in-Some.place b c.args.value.now eb (subst (λ (o : Option ℕ). NamesIf (func_of c.args.self.now) c.args.value.now o) c.in-Some.is c.named-name.ensures) (λ e. false≢true (sym c.if-is_own.false ∙ c.is_at-is_own.ensures.1 (sym (sym c.entry-home.ensures) ∙ e)))
    (λ phi. false≢true (sym c.if-has_phi.false ∙ (c.has_phi-has_phi.ensures b eb).1 phi)) c.entry-state.result state)
