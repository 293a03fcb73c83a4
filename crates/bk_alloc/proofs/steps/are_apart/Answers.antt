use Rattle.std.proofs.Common.{◌≡◌, ◌<◌, length, false, ap, arith}
use Rattle.std.specs.BTreeMap.{is_at}
use Rattle.std.specs.BTreeSet.{contains}
use Rattle.std.specs.List.{IsDistinct, list_any}
use Rattle.std.specs.Ordering.{nat_cmp}
use Rattle.std.proofs.lemmas.Grind.{common_steps}
use Rattle.std.proofs.lemmas.List.Elements.{All-nil}
use Rattle.bk_shuffle.specs.Left.{GoesToAPlace}
use Rattle.bk_alloc.proofs.Apart.{apart_more}
use Rattle.bk_alloc.proofs.steps.are_apart.Goals as goal

pub loop-edge-init : goal.loop-edge-init
unfolding IsDistinct
loop-edge-init c = record { goes = All-nil GoesToAPlace; apart = tt; same = λ q. ap (λ ks. list_any (is_at (nat_cmp q)) ks) c.new-places.ensures.empty }

pub loop-edge-preserved : goal.loop-edge-preserved
loop-edge-preserved c =
    let within : c.loop-edge.edge-index < length c.args.moves.now = omega arith in
    let new : contains nat_cmp c.loop-edge.places c.in-Some.place ≡ false = grind (arith, common_steps) in
    apart_more (contains nat_cmp c.loop-edge.places) (contains nat_cmp c.insert.new.self) c.args.moves.now c.loop-edge.edge-index _ c.in-Some.place within c.in-Some.ensures.is c.in-Some.ensures.none
    new c.in_ok-insert.ensures.updates.0 c.loop-edge.invariant
