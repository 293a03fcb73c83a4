use Rattle.std.proofs.Common.{◌∙◌, sym, ap, None, Option, ℕ}
use Rattle.std.specs.Option.{unwrap_or}
use Rattle.std.proofs.lemmas.Option.{unwrap_or-slice_get}
use Rattle.bk_places.proofs.Elements.{lent, none_says, nothing_found, some_says}
use Rattle.bk_sched.proofs.Naming.{names_nothing, names_nowhere, names_root}
use Rattle.bk_sched.proofs.named.named.Goals as goal

pub returns-in_default : goal.returns-in_default
returns-in_default c =
    names_nothing c.args.places.now.numbers.items c.args.roots.now c.args.value.now
    (none_says _ _ c.memory_argument-argument.result (nothing_found c.memory_argument-argument.result c.in_default.not-Some) c.memory_argument-argument.ensures)

pub returns-in_default-found : goal.returns-in_default-found
returns-in_default-found c =
    names_nowhere c.args.places.now.numbers.items c.args.roots.now c.args.value.now c.in-Some.id
    (some_says _ _ c.memory_argument-argument.result c.in-Some.id c.in-Some.is c.memory_argument-argument.ensures)
    (sym c.place-found.ensures ∙ nothing_found c.place-found.result c.in_default-found.not-Some)

pub returns : goal.returns
returns c =
    names_root c.args.places.now.numbers.items c.args.roots.now c.args.value.now c.in-Some.id c.in-Some-found.place
    (some_says _ _ c.memory_argument-argument.result c.in-Some.id c.in-Some.is c.memory_argument-argument.ensures)
    (sym c.place-found.ensures ∙ c.in-Some-found.is) c.unwrap_or.result
    (c.unwrap_or.ensures ∙ (ap (λ (o : Option (Option ℕ)). unwrap_or o None) (c.copied.ensures ∙ lent c.args.roots.now c.in-Some-found.place c.get.result c.get.ensures.lookup)
    ∙ unwrap_or-slice_get c.args.roots.now c.in-Some-found.place None))
