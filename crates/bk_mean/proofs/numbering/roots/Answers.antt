use Rattle.std.proofs.Common.{rules, ◌≡◌, ◌+◌, ◌<◌, ◌≤◌, ◌∙◌, sym, ap, arith, subst, List, ℕ, length, map}
use Rattle.std.specs.Prelude.{unwrap_or}
use Rattle.std.specs.Ordering.{nat_cmp}
use Rattle.std.specs.BTreeMap.{get}
use Rattle.bk_func.specs.Numbers.{values_of, room}
use Rattle.bk_mean.specs.Numbering.{AreRoots, copied_by}
use Rattle.bk_places.proofs.Counting.{with_same}
use Rattle.bk_mean.proofs.Leaps.{places_are, roots_fewer}
use Rattle.bk_mean.proofs.numbering.roots.Goals as goal

pub loop-reach-init : goal.loop-reach-init
loop-reach-init c =
    let e : c.in_ok-roots.roots.items ≡ map (λ v. unwrap_or (get nat_cmp c.args.places.now (copied_by v)) c.args.count) (values_of c.args.func.now) = search rules in
    record { some = omega arith; roots = places_are c.args.func.now (get nat_cmp c.args.places.now) c.args.count c.in_ok-roots.roots.items c.requires.count c.requires.places e }

pub loop-reach-preserved : goal.loop-reach-preserved
loop-reach-preserved c =
    let a : c.min-reach.result ≤ c.loop-reach.reach = search rules in
    let b : 0 < c.min-reach.result + c.loop-reach.reach = (let s = c.loop-reach.invariant.some in omega (arith, s)) in
    let n : length c.loop-reach.roots.items ≡ c.loop-reach.roots.len = search rules in
    let v : length c.leap.new.roots ≡ length c.loop-reach.roots.items = c.leap.ensures.length ∙ ap length c.deref_mut.ensures.value in
    let P : List ℕ → Type 0 = λ rs. AreRoots c.args.func.now (c.loop-reach.reach + c.min-reach.result) rs in
    let Q : List ℕ → Type 0 = λ rs. AreRoots c.args.func.now c.loop-reach.reach rs in
    record {
      some = omega (arith, b);
      roots = subst P (sym (with_same c.loop-reach.roots.len c.leap.new.roots c.loop-reach.roots.items v n))
          (roots_fewer c.args.func.now (c.loop-reach.reach + c.loop-reach.reach) (c.loop-reach.reach + c.min-reach.result) c.leap.new.roots
          (c.leap.ensures.leaps c.args.func.now c.loop-reach.reach (subst Q (sym c.deref_mut.ensures.value) c.loop-reach.invariant.roots)) (omega (arith, a)));
    }

pub returns : goal.returns
returns c = roots_fewer c.args.func.now c.loop-reach.reach (room c.args.func.now) c.loop-reach.roots.items c.loop-reach.invariant.roots (omega (arith, c.requires.count))
