use Rattle.std.proofs.Common.{rules, ◌≡◌, ◌<◌, ◌∙◌, arith, length, map}
use Rattle.bk_mean.proofs.Releasing.{taken_of, taken_low}
use Rattle.bk_mean.proofs.arrange.count_uses.Goals as goal

pub add_uses-requires : goal.add_uses-requires
add_uses-requires c = λ k d l.
    let h : c.loop-taken.taken-index < length c.args.takes.now = omega arith in
    let e : c.taken-item.result.items ≡ c.as_slice.result.now = search rules in
    let n : length c.deref_mut.result.now ≡ c.args.count = search rules in
    let low = taken_low c.args.count (map (λ t. t.items) c.args.takes.now) (record { within = c.requires.within }) c.loop-taken.taken-index c.as_slice.result.now (taken_of (λ t. t.items) c.args.takes.now c.loop-taken.taken-index c.taken-item.result h c.taken-item.is ∙ e) k d l in
    omega (arith, low, n)
