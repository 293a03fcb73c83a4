use Rattle.std.proofs.Common.{◌||◌, take, arith}
use Rattle.std.specs.List.{list_any}
use Rattle.bk_alloc.specs.Outgoing.{is_call_of}
use Rattle.bk_alloc.proofs.Outward.{all_values, more_values, no_values}
use Rattle.bk_alloc.proofs.outgoing.take_calls.Goals as goal

pub loop-value-init : goal.loop-value-init
loop-value-init c = λ called before. no_values c.args.target called c.args.pkg.now.funcs c.args.values.now c.args.before before

pub loop-value-preserved : goal.loop-value-preserved
loop-value-preserved c = λ called before.
    more_values c.args.target called c.args.pkg.now.funcs c.args.values.now c.loop-value.value-index c.value-item.result c.in_ok-most.most (omega arith) c.value-item.is
    (c.in_ok-most.ensures (λ s. called s || list_any (is_call_of s) (take c.loop-value.value-index c.args.values.now)) (c.loop-value.invariant called before))

pub returns : goal.returns
returns c = λ called before.
    all_values c.args.target called c.args.pkg.now.funcs c.args.values.now c.loop-value.value-index c.loop-value.most (omega arith) (c.loop-value.invariant called before)
