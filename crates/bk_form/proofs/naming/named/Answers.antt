use Rattle.std.proofs.Common.{◌∙◌, sym, ap, None, Option, ℕ}
use Rattle.std.specs.Option.{unwrap_or}
use Rattle.std.proofs.lemmas.Option.{unwrap_or-slice_get}
use Rattle.bk_places.proofs.Elements.{lent, none_says, some_says}
use Rattle.bk_form.specs.Names.{measure}
use Rattle.bk_form.proofs.Copied.{values_named}
use Rattle.bk_form.proofs.StateNames.{names_nothing, names_somewhere, names_root}
use Rattle.bk_form.proofs.Used.{nothing_found}
use Rattle.bk_form.proofs.naming.named.Goals as goal

pub returns-in_default : goal.returns-in_default
returns-in_default c =
    names_nothing c.args.flow.now.scope.func.now c.args.value.now
    (none_says _ _ c.memory_argument-argument.result (nothing_found c.memory_argument-argument.result c.in_default.not-Some) c.memory_argument-argument.ensures)

pub returns-in_default-found : goal.returns-in_default-found
returns-in_default-found c =
    let f = c.args.flow.now.scope.func.now in
    let (b, has) = c.requires.value in
    absurd (names_somewhere f (values_named (measure c.args.flow.now.scope) f c.requires.flow.named) b c.args.value.now has c.in-Some.id
    (some_says _ _ c.memory_argument-argument.result c.in-Some.id c.in-Some.is c.memory_argument-argument.ensures)
    (sym (c.value-found.ensures ∙ c.requires.flow.scope.numbers.value c.in-Some.id) ∙ nothing_found c.value-found.result c.in_default-found.not-Some))

pub returns : goal.returns
returns c =
    let f = c.args.flow.now.scope.func.now in
    let (b, has) = c.requires.value in
    names_root f (values_named (measure c.args.flow.now.scope) f c.requires.flow.named) c.args.roots.now c.requires.roots b c.args.value.now has c.in-Some.id c.in-Some-found.place
    (some_says _ _ c.memory_argument-argument.result c.in-Some.id c.in-Some.is c.memory_argument-argument.ensures)
    (sym (c.value-found.ensures ∙ c.requires.flow.scope.numbers.value c.in-Some.id) ∙ c.in-Some-found.is) c.unwrap_or.result
    (sym (c.unwrap_or.ensures ∙ (ap (λ (o : Option (Option ℕ)). unwrap_or o None) (c.copied.ensures ∙ lent c.args.roots.now c.in-Some-found.place c.get.result c.get.ensures.lookup)
    ∙ unwrap_or-slice_get c.args.roots.now c.in-Some-found.place None)))
