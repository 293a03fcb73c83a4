use Rattle.std.proofs.Common.{ap, arith}
use Rattle.std.specs.BTreeMap.{is_at}
use Rattle.std.specs.Map.{lookup}
use Rattle.std.specs.Ordering.{nat_cmp}
use Rattle.bk_alloc.proofs.Firsts.{first_all, first_more}
use Rattle.bk_alloc.proofs.plan.value_places.Goals as goal

pub loop-place-init : goal.loop-place-init
loop-place-init c = λ n. ap (λ es. lookup (is_at (nat_cmp n)) es) c.new-places.ensures.empty

pub loop-place-preserved : goal.loop-place-preserved
loop-place-preserved c =
    first_more (λ v. v.id) c.args.values.now c.loop-place.place c.index-values-place.result c.value.inside.id c.loop-place.places c.note.new.places (omega arith) c.index-values-place.is (ap (λ v. v.id) c.value.view_is)
    c.loop-place.invariant c.in_ok-note.ensures.ok

pub returns : goal.returns
returns c = first_all (λ v. v.id) c.args.values.now c.loop-place.place c.loop-place.places (omega arith) c.loop-place.invariant
