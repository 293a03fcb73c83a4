use Rattle.std.proofs.Common.{rules, ◌≡◌, ℕ, sym, subst, List, length, map, Some, Option}
use Rattle.std.specs.Prelude.{slice_get}
use Rattle.bk_func.specs.Records.{ValueRecord}
use Rattle.bk_mean.specs.declared.arrange.Due.{Due}
use Rattle.bk_mean.specs.Dues.{StaysWithin, DuesOfPlaces, due_in}
use Rattle.bk_mean.specs.Memories.{all_taken, place_due}
use Rattle.bk_mean.proofs.Ordered.{of_places, arranged_is, taken_within}
use Rattle.std.proofs.lemmas.Result.{IfOk-weaker}
use Rattle.bk_mean.proofs.prepare.order.Goals as goal

pub arrange-requires-clause-within : goal.arrange-requires-clause-within
arrange-requires-clause-within c =
    let n : length c.deref.result.now ≡ length c.args.values.now = search rules in
    let t : map (λ t. t.items) c.deref-2.result.now ≡ all_taken c.args.numbering.now c.args.first c.args.values.now = search rules in
    let P : ℕ → Type 0 = λ k. StaysWithin k (all_taken c.args.numbering.now c.args.first c.args.values.now) in
    let Q : List (List ℕ) → Type 0 = λ ts. StaysWithin (length c.deref.result.now) ts in
    subst Q (sym t) (subst P (sym n) (taken_within c.args.numbering.now c.args.first c.args.values.now))

pub arrange-requires-clause-places : goal.arrange-requires-clause-places
arrange-requires-clause-places c =
    let n : length c.in_ok-due.due.items ≡ length c.args.values.now = search rules in
    let P : List (Option Due) → Type 0 = λ ds. DuesOfPlaces ds in
    subst P (sym c.deref.ensures.value) (of_places c.args.numbering.now c.args.first c.args.values.now c.in_ok-due.due.items n c.in_ok-due.ensures.each)

pub returns-clause-arranged : goal.returns-clause-arranged
returns-clause-arranged c =
    let n : length c.deref.result.now ≡ length c.args.values.now = search rules in
    let t : map (λ t. t.items) c.deref-2.result.now ≡ all_taken c.args.numbering.now c.args.first c.args.values.now = search rules in
    let P : List (Option Due) → Type 0 = λ ds. (k : ℕ) (v : ValueRecord) → slice_get c.args.values.now k ≡ Some v → due_in ds k ≡ place_due c.args.numbering.now c.args.first c.args.values.now k v in
    IfOk-weaker c.arrange.result _ _ (λ order h. arranged_is c.args.numbering.now c.args.first c.args.values.now c.deref.result.now n (subst P (sym c.deref.ensures.value) c.in_ok-due.ensures.each) (map (λ t. t.items) c.deref-2.result.now) order.items t h)
    c.arrange.ensures.filled
