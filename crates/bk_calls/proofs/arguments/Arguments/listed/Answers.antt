use Rattle.std.proofs.Common.{◌∙◌, ap, refl, ◌+◌, ◌<◌, false, List, length, arith}
use Rattle.bk_func.specs.Records.{ValueRecord}
use Rattle.bk_calls.specs.Arguments.{arg_regs, argument_number, is_named}
use Rattle.bk_calls.proofs.Entry.{read_same, regs_next, regs_all, number_listed, listed_length}
use Rattle.bk_calls.proofs.arguments.Arguments.listed.Goals as goal

pub loop-place-preserved : goal.loop-place-preserved
loop-place-preserved c =
    let a = c.loop-place.arguments in
    let b = c.list.new.self in
    let i = c.loop-place.place in
    let is = c.in_ok-list.ensures in
    let before = c.loop-place.invariant in
    let tys = c.args.types.now in
    let test = is_named c.args.blocks.now in
    let l : i < length tys = omega arith in
    let places = c.in_ok-named.named.items in
    let count = c.in_ok-named.ensures.len in
    let k : i < length places = omega (arith, l, count) in
    let named = c.index.ensures ∙ (read_same places i c.index.result.now false k ∙ c.in_ok-named.ensures.named i l) in
    record {
      values = regs_next test tys i a.next b.next _ _ _ a.values.items b.values.items (arg_regs test 0 c.args.first tys) l refl named is.values is.next before.values;
      numbers = λ j. number_listed a.values.items b.values.items a.next _ i j _ _ _ is.values (before.numbers j) (is.numbers j);
      next = listed_length a.values.items b.values.items _ _ c.args.first a.next b.next is.values is.next before.next;
    }

pub returns-clause-values : goal.returns-clause-values
returns-clause-values c =
    let a = c.loop-place.arguments in
    let test = is_named c.args.blocks.now in
    regs_all test c.args.types.now c.loop-place.place a.next a.values.items (arg_regs test 0 c.args.first c.args.types.now) (omega arith)
    c.loop-place.invariant.values

pub returns-clause-numbers : goal.returns-clause-numbers
returns-clause-numbers c = λ i.
    let a = c.loop-place.arguments in
    let test = is_named c.args.blocks.now in
    c.loop-place.invariant.numbers i ∙ ap (λ (ws : List ValueRecord). argument_number ws i)
    (regs_all test c.args.types.now c.loop-place.place a.next a.values.items (arg_regs test 0 c.args.first c.args.types.now) (omega arith)
    c.loop-place.invariant.values)

pub returns-clause-next : goal.returns-clause-next
returns-clause-next c =
    let a = c.loop-place.arguments in
    let test = is_named c.args.blocks.now in
    c.loop-place.invariant.next ∙ ap (λ (ws : List ValueRecord). c.args.first + length ws)
    (regs_all test c.args.types.now c.loop-place.place a.next a.values.items (arg_regs test 0 c.args.first c.args.types.now) (omega arith)
    c.loop-place.invariant.values)
