use Rattle.std.proofs.Common.{ap, arith}
use Rattle.std.specs.BTreeMap.{is_at}
use Rattle.std.specs.Map.{lookup}
use Rattle.std.specs.Ordering.{nat_cmp}
use Rattle.bk_alloc.proofs.Firsts.{first_all, first_more}
use Rattle.bk_alloc.proofs.parts.phi_places.Goals as goal

pub loop-place-init : goal.loop-place-init
loop-place-init c = λ n. ap (λ es. lookup (is_at (nat_cmp n)) es) c.new-places.ensures.empty

pub loop-place-preserved : goal.loop-place-preserved
loop-place-preserved c =
    first_more (λ p. p.value) c.args.phis.now c.loop-place.place c.index-phis-place.result c.phi.inside.value c.loop-place.places c.note.new.places (omega arith) c.index-phis-place.is (ap (λ p. p.value) c.phi.view_is)
    c.loop-place.invariant c.in_ok-note.ensures.ok

pub returns : goal.returns
returns c = first_all (λ p. p.value) c.args.phis.now c.loop-place.place c.loop-place.places (omega arith) c.loop-place.invariant
