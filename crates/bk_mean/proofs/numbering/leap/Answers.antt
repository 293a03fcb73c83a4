use Rattle.std.proofs.Common.{rules, ◌<◌, ◌∙◌, arith, length}
use Rattle.bk_mean.proofs.Leaps.{leaping_none, leaping_all, leaping_stays, leaping_more}
use Rattle.bk_mean.proofs.numbering.leap.Goals as goal
use Rattle.bk_mean.proofs.numbering.leap.Goals.{then-root-roots, else-root-roots}

pub loop-place-init : goal.loop-place-init
loop-place-init c = search (rules, leaping_none)

pub loop-place-preserved : goal.loop-place-preserved
loop-place-preserved c = record {
  length = c.if-root-roots.auto.roots ∙ c.loop-place.invariant.length;
  leaps = λ f n h.
      let a = c.loop-place.invariant.leaps f n h in
      let i : c.loop-place.place < length c.loop-place.roots = (let l = c.loop-place.invariant.length in omega (arith, l)) in
      elim c.if-root-roots.branch [
        | then-root-roots w ↦ rw w.roots-is (leaping_more f n c.loop-place.place c.loop-place.roots a i w.if-root-roots.true)
        | else-root-roots w ↦ rw w.roots-is (leaping_stays f n c.loop-place.place c.loop-place.roots a w.if-root-roots.false)
      ];
}

pub returns-clause-leaps : goal.returns-clause-leaps
returns-clause-leaps c = λ f n h. leaping_all f n c.loop-place.place c.loop-place.roots (c.loop-place.invariant.leaps f n h) (let l = c.loop-place.invariant.length in omega (arith, l))
