use Rattle.std.proofs.Common.{ap, refl, sym}
use Rattle.std.specs.BTreeMap.{get, is_at}
use Rattle.std.specs.Map.{lookup}
use Rattle.std.specs.Ordering.{nat_cmp}
use Rattle.bk_live.proofs.Adding.{item_at}
use Rattle.bk_live.proofs.Homing.{places_none, places_more, places_all}
use Rattle.bk_live.proofs.places.Places.new.Goals as goal

pub loop-place-init : goal.loop-place-init
loop-place-init c = places_none c.args.blocks.now (λ n. get nat_cmp c.new-places.result n) (λ n. ap (λ es. lookup (is_at (nat_cmp n)) es) c.new-places.ensures.empty)

pub loop-place-preserved : goal.loop-place-preserved
loop-place-preserved c =
    places_more c.args.blocks.now c.loop-place.place c.index-blocks-place.result c.block.inside.id (λ n. get nat_cmp c.loop-place.places n) (λ n. get nat_cmp c.insert.new.self n)
    (item_at refl c.loop-place.place c.index-blocks-place.result c.loop-place-test.true c.index-blocks-place.is) (sym (ap (λ b. b.id) c.block.view_is)) c.loop-place.invariant
    c.in_ok-insert.ensures.updates.0

pub returns : goal.returns
returns c = places_all c.args.blocks.now c.loop-place.place (λ n. get nat_cmp c.loop-place.places n) c.loop-place-test.false c.loop-place.invariant
