use Rattle.std.proofs.Common.{◌∙◌, ap, subst}
use Rattle.std.specs.List.Sorted.{IsStrictlyIncreasing}
use Rattle.bk_func.specs.Records.{FuncRecord}
use Rattle.bk_work.proofs.Own.{numbers_in, own_numbers}
use Rattle.bk_work.proofs.numbers.has_numbers.Goals as goal

pub returns : goal.returns
returns c = λ t.
    let listed = c.in_ok-numbers.ensures ∙ ap numbers_in (c.deref.ensures.value ∙ ap (λ (f : FuncRecord). f.blocks) c.func.view_is) in
    own_numbers c.args.func.now c.in_ok-numbers.numbers.items _ listed c.sort_unstable.ensures.permutation (subst IsStrictlyIncreasing c.deref-2.ensures.value (c.rise.ensures t))
