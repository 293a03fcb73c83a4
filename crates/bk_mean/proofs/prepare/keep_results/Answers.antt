use Rattle.std.proofs.Common.{◌++◌, ◌<◌, ◌∙◌, refl, sym, subst, arith, length, map, append-nil, List}
use Rattle.std.proofs.lemmas.List.{take_all}
use Rattle.bk_func.specs.Records.{ValueRecord}
use Rattle.bk_mean.specs.Ready.{KeepsResults}
use Rattle.bk_mean.proofs.Results.{keeps_more, adds_nothing, adds_result}
use Rattle.bk_mean.proofs.prepare.keep_results.Goals as goal
use Rattle.bk_mean.proofs.prepare.keep_results.Goals.{in-Some+in_ok-keep, in_default}

pub loop-value-init : goal.loop-value-init
loop-value-init c = record {
  size = refl;
  results = λ f n before l h. (let P : List ValueRecord → Type 0 = λ vs. KeepsResults f vs (map (λ v. v.items) c.args.kept.now) in subst P (sym (append-nil before)) h);
}

pub loop-value-preserved : goal.loop-value-preserved
loop-value-preserved c = record {
  size = c.match-call_of.auto.kept ∙ c.loop-value.invariant.size;
  results = λ f n before l h.
      let i : c.loop-value.value-index < length c.args.values.now = omega arith in
      let s = c.loop-value.invariant.size in
      keeps_more f c.args.values.now c.loop-value.value-index c.value-item.result before (map (λ v. v.items) c.loop-value.kept) (map (λ v. v.items) c.match-call_of.kept) i c.value-item.is
      (c.loop-value.invariant.results f n before l h)
      (elim c.match-call_of.branch [
        | in-Some+in_ok-keep w ↦ λ k m. rw w.kept-is
            (adds_result f c.value-item.result c.call_of.result w.in-Some.call (length c.loop-value.kept) w.kept_by.result (map (λ v. v.items) c.loop-value.kept) (map (λ v. v.items) w.keep.new.kept) (c.call_of.ensures f n) w.in-Some.is
            (w.kept_by.ensures f n) w.in_ok-keep.ensures.kept k (omega (arith, m, l, s)))
        | in_default w ↦ λ k m. rw w.kept-is (adds_nothing f c.value-item.result c.call_of.result (map (λ v. v.items) c.loop-value.kept) (c.call_of.ensures f n) w.in_default.is k)
      ]);
}

pub returns-clause-results : goal.returns-clause-results
returns-clause-results c = λ f n before l h.
    let P : List ValueRecord → Type 0 = λ vs. KeepsResults f (before ++ vs) (map (λ v. v.items) c.loop-value.kept) in
    subst P (take_all c.loop-value.value-index c.args.values.now (omega arith)) (c.loop-value.invariant.results f n before l h)
