use Rattle.bk_rewrite.specs.Places.{value_limit}
use Rattle.bk_rewrite.proofs.Rows.{told}
use Rattle.bk_rewrite.proofs.Turns.{exceeds_by, applies_by, counted_by}
use Rattle.std.proofs.Common.{◌-◌}
use Rattle.bk_rewrite.proofs.passing.try_rules.Goals as goal

pub returns-in_err-made-clause-exceeds : goal.returns-in_err-made-clause-exceeds
returns-in_err-made-clause-exceeds c = λ k.
    let m = c.in_ok-found.ensures.found k.numbers in
    let l = c.in_ok-found.ensures.place in
    told c.from_residual-in_err-made.result c.in_err-made.field-0.0 _ c.from_residual-in_err-made.ensures.1
    (λ q. exceeds_by c.args.target c.args.ruled.now.rules.now c.args.func.now c.args.id c.in-Some.found.place c.args.counts.greatest (value_limit - c.args.counts.values)
    c.in-Some.found.binds.items c.deref.result.now c.in-Some.found.choices.items c.index-rules-found.result c.deref.ensures.value k
    (rw c.in-Some.is at m) (rw c.in-Some.is at l) c.index-rules-found.is (λ g. c.in_err-made.ensures.grown g q))

pub returns-clause-counted : goal.returns-clause-counted
returns-clause-counted c = λ v s k.
    counted_by c.args.target c.args.func.now c.apply_at.new.func c.args.id c.args.spot.block c.args.spot.place c.args.counts.greatest c.args.counts.values c.in_ok-made.made v
    c.deref.result.now c.index-rules-found.result k s c.in_ok-made.ensures.ok c.in_ok-made.ensures.count

pub returns-clause-tries : goal.returns-clause-tries
returns-clause-tries c = λ v s k.
    let m = c.in_ok-found.ensures.found k.numbers in
    let l = c.in_ok-found.ensures.place in
    applies_by c.args.target c.args.ruled.now.rules.now c.args.func.now c.apply_at.new.func c.args.id c.args.spot.block c.args.spot.place c.in-Some.found.place c.args.counts.greatest (value_limit - c.args.counts.values) v
    c.in-Some.found.binds.items c.deref.result.now c.in-Some.found.choices.items c.index-rules-found.result c.deref.ensures.value k s
    (rw c.in-Some.is at m) (rw c.in-Some.is at l) c.index-rules-found.is c.in_ok-made.ensures.ok
