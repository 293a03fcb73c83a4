use Rattle.std.proofs.Common.{rules, ◌<◌, ◌∙◌, arith, length}
use Rattle.std.specs.Ordering.{nat_cmp}
use Rattle.std.specs.BTreeMap.{get}
use Rattle.std.proofs.lemmas.Option.{slice_get_within}
use Rattle.bk_mean.proofs.Dated.{due_more, due_by_levels}
use Rattle.bk_mean.proofs.states.due.Goals as goal

pub loop-place-preserved : goal.loop-place-preserved
loop-place-preserved c =
    let h : c.loop-place.place < length c.args.values.now = omega arith in
    record {
      length = (let n = c.loop-place.invariant.length in search rules);
      each = due_more c.args.numbering.now c.args.first c.args.values.now c.loop-place.place c.index-values-place.result c.loop-place.due.items c.push.new.self.items c.when.result h c.index-values-place.is
          c.loop-place.invariant.length c.in_ok-push.ensures.items
          (c.when.ensures ∙ due_by_levels c.args.numbering.now c.args.first c.args.values.now c.loop-place.place c.index-values-place.result (get nat_cmp c.in_ok-levels.levels) c.in_ok-levels.ensures)
          c.loop-place.invariant.each;
    }

pub returns-clause-each : goal.returns-clause-each
returns-clause-each c = λ k v g.
    let l = slice_get_within c.args.values.now k v g in
    c.loop-place.invariant.each k v (omega (arith, l)) g
