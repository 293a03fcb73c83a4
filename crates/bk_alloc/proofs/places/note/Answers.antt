use Rattle.std.proofs.Common.{◌∙◌, ap}
use Rattle.std.specs.BTreeMap.{get}
use Rattle.std.specs.Option.{unwrap_or}
use Rattle.std.specs.Ordering.{nat_cmp}
use Rattle.bk_alloc.proofs.Firsts.{noted}
use Rattle.bk_alloc.proofs.places.note.Goals as goal

pub returns-clause-ok : goal.returns-clause-ok
returns-clause-ok c =
    noted (get nat_cmp c.args.places.now) (get nat_cmp c.insert.new.self) c.args.number c.args.place c.unwrap_or-first.result (c.unwrap_or-first.ensures ∙ ap (λ o. unwrap_or o c.args.place) (c.copied.ensures ∙ c.get.ensures.value))
    c.in_ok-insert.ensures.updates.0
