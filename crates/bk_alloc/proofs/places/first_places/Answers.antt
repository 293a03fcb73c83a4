use Rattle.std.proofs.Common.{◌<◌, ap, arith, get_or, length, refl}
use Rattle.std.specs.BTreeMap.{is_at}
use Rattle.std.specs.Map.{lookup}
use Rattle.std.specs.Ordering.{nat_cmp}
use Rattle.bk_alloc.proofs.Firsts.{first_all, first_more}
use Rattle.bk_alloc.proofs.Growing.{same_item}
use Rattle.bk_alloc.proofs.places.first_places.Goals as goal

pub loop-place-init : goal.loop-place-init
loop-place-init c = λ n. ap (λ es. lookup (is_at (nat_cmp n)) es) c.new-places.ensures.empty

pub loop-place-preserved : goal.loop-place-preserved
loop-place-preserved c =
    let l : c.loop-place.place < length c.args.numbers.now = omega arith in
    first_more (λ n. n) c.args.numbers.now c.loop-place.place (get_or c.args.numbers.now c.loop-place.place 0) _ c.loop-place.places c.note.new.places l (same_item c.args.numbers.now c.loop-place.place 0 l) refl
    c.loop-place.invariant c.in_ok-note.ensures.ok

pub returns : goal.returns
returns c = first_all (λ n. n) c.args.numbers.now c.loop-place.place c.loop-place.places (omega arith) c.loop-place.invariant
