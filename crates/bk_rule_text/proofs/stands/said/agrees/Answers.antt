use Rattle.std.proofs.Common.{◌∙◌, ap, sym, arith, nat_eq, true}
use Rattle.std.specs.Map.{lookup}
use Rattle.std.specs.Option.{option_map_or}
use Rattle.indexmap.specs.IndexMap.{get}
use Rattle.bk_rule_text.proofs.Agreeing.{nothing_noted, one_more_noted, one_differs, all_noted}
use Rattle.bk_rule_text.proofs.stands.said.agrees.Goals as goal

pub loop-variable-init : goal.loop-variable-init
loop-variable-init g c = nothing_noted g.T.PartialEq.eq (λ k. get nat_eq c.new-first.result k) (λ i. ap (λ es. lookup (nat_eq i) es) c.new-first.ensures.empty)

pub returns-then-not-is_repeated : goal.returns-then-not-is_repeated
returns-then-not-is_repeated g c =
    let l = c.loop-variable in
    let x = c.loop-variable-item.result in
    let same = g.T.PartialEq.eq in
    sym
    (
    one_differs same (λ k. get nat_eq l.first k) c.args.said.now l.variable-index x l.invariant (omega arith) c.loop-variable-item.is
    (ap (λ o. option_map_or (λ y. same y x.1) o true) (sym c.in_ok-before.ensures.old) ∙ sym c.is_repeated.ensures ∙ c.if-not-is_repeated.true)
    )

pub loop-variable-preserved : goal.loop-variable-preserved
loop-variable-preserved g c =
    let l = c.loop-variable in
    let x = c.loop-variable-item.result in
    let same = g.T.PartialEq.eq in
    one_more_noted same (λ k. get nat_eq l.first k) (λ k. get nat_eq c.insert.new.self k) c.args.said.now l.variable-index x g.met.T.Eq.laws l.invariant (omega arith) c.loop-variable-item.is
    (ap (λ o. option_map_or (λ y. same y x.1) o true) (sym c.in_ok-before.ensures.old) ∙ sym c.is_repeated.ensures ∙ c.if-not-is_repeated.false)
    c.in_ok-before.ensures.updates.1 c.in_ok-before.ensures.updates.2

pub returns : goal.returns
returns g c =
    let l = c.loop-variable in
    sym (all_noted g.T.PartialEq.eq (λ k. get nat_eq l.first k) c.args.said.now l.variable-index g.met.T.Eq.laws l.invariant (omega arith))
