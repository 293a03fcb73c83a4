use Rattle.std.proofs.Common.{◌≡◌, ◌∙◌, sym, ap, subst, ℕ, List, length, Option, None, arith}
use Rattle.std.proofs.lemmas.Option.{same_Some}
use Rattle.bk_func.specs.Records.{ValueRecord}
use Rattle.bk_places.proofs.Filling.{filled_none, filled_more, item_at}
use Rattle.bk_sched.specs.Named.{NamesPlace}
use Rattle.bk_sched.proofs.Naming.{named_all}
use Rattle.bk_sched.proofs.named.names.Goals as goal

pub loop-value-init : goal.loop-value-init
loop-value-init c = filled_none _ None c.in_ok-names.names.items c.in_ok-names.ensures.items

pub loop-value-preserved : goal.loop-value-preserved
loop-value-preserved c =
    let ns = c.args.places.now.numbers.items in
    let same = c.deref-value-items.ensures.value ∙ ap (λ b. b.values) c.block.view_is in
    let at = item_at same c.loop-value.value-index c.value-item.result c.loop-value-test.true c.value-item.is in
    let here = subst (λ (rs : List (Option ℕ)). NamesPlace ns rs c.value-item.result c.named-name.result) c.deref.ensures.value c.named-name.ensures in
    filled_more c.loop-value.invariant c.named-name.result c.push.new.self.items
    (λ v e. subst (λ (w : ValueRecord). NamesPlace ns c.in_ok-roots.roots.items w c.named-name.result) (same_Some c.value-item.result v (sym at ∙ e)) here) c.in_ok-push.ensures.items

pub returns : goal.returns
returns c =
    let same = c.deref-value-items.ensures.value ∙ ap (λ b. b.values) c.block.view_is in
    let end : c.loop-value.value-index ≡ length c.deref-value-items.result.now = omega arith in
    named_all c.args.block.now c.args.places.now.numbers.items c.requires.places.known c.in_ok-roots.roots.items c.in_ok-roots.ensures c.loop-value.names.items c.loop-value.value-index (end ∙ ap length same) c.loop-value.invariant
