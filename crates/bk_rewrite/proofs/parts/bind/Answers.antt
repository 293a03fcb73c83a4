use Rattle.std.proofs.Common.{◌≡◌, arith, length, rules, refl}
use Rattle.std.specs.Prelude.{Some, slice_get}
use Rattle.std.proofs.lemmas.Option.{slice_get_read}
use Rattle.bk_rewrite.proofs.Standing.{binds_old, binds_new, misses_other}
use Rattle.bk_rewrite.proofs.parts.bind.Goals as goal

pub returns-then-place-len-clause-fits : goal.returns-then-place-len-clause-fits
returns-then-place-len-clause-fits c = λ q.
    let e : c.index.result.now ≡ c.args.bound = search rules in
    binds_old c.args.binds.now.items c.args.variable c.args.bound
    (let g : slice_get c.args.binds.now.items c.args.variable ≡ Some c.index.result.now = slice_get_read c.args.binds.now.items (length c.args.binds.now.items) c.args.variable c.index.result.now refl (omega arith) c.index.ensures in rw e at g)

pub returns-then-place-len-clause-misses : goal.returns-then-place-len-clause-misses
returns-then-place-len-clause-misses c = λ l q.
    misses_other c.args.binds.now.items c.args.variable c.args.bound c.index.result.now
    (slice_get_read c.args.binds.now.items (length c.args.binds.now.items) c.args.variable c.index.result.now refl (omega arith) c.index.ensures) (λ e. search rules)

pub returns-clause-fits : goal.returns-clause-fits
returns-clause-fits c = λ q. binds_new c.args.binds.now.items c.push.new.self.items c.args.variable c.args.bound (omega arith) c.in_ok-push.ensures.items
