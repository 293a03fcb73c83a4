use Rattle.bk_places.proofs.Elements.{none_says, nothing_found, some_says}
use Rattle.bk_sched.proofs.Naming.{copies_nothing, copies_place}
use Rattle.bk_sched.proofs.named.copied.Goals as goal

pub returns-in_default : goal.returns-in_default
returns-in_default c =
    copies_nothing c.args.places.now.numbers.items c.args.value.now
    (none_says _ _ c.memory_argument-argument.result (nothing_found c.memory_argument-argument.result c.in_default.not-Some) c.memory_argument-argument.ensures)

pub returns : goal.returns
returns c =
    copies_place c.args.places.now.numbers.items c.args.value.now c.in-Some.id (c.copies_memory.ensures.0 c.if-not-copies_memory.false)
    (some_says _ _ c.memory_argument-argument.result c.in-Some.id c.in-Some.is c.memory_argument-argument.ensures) c.place.result c.place.ensures
