use Rattle.std.proofs.Common.{◌≡◌, ◌∙◌, ◌+◌, List, sym, subst, Some}
use Rattle.std.proofs.lemmas.Result.{on_ok_weaker}
use Rattle.bk_ops.specs.declared.table.Op.{Op}
use Rattle.bk_rewrite.specs.declared.roots.Group.{Group}
use Rattle.bk_rewrite.specs.Roots.{Grouped, HasGroup}
use Rattle.bk_rewrite.proofs.Rooted.{grouped_more, grouped_same}
use Rattle.bk_rewrite.proofs.roots.put_group.Goals as goal

pub returns-in-Some-group_of : goal.returns-in-Some-group_of
returns-in-Some-group_of c = λ n e h.
    grouped_same c.args.part c.args.rules.now n c.args.groups.now.items c.args.rule.now e
    (λ o q p. (
      c.in-Some-group_of.field-0,
      (let z : c.in-Some.op ≡ o = (let y : Some c.in-Some.op ≡ Some o = sym c.in-Some.is ∙ (c.root_op.ensures ∙ q) in cc) in
          subst (λ (x : Op). HasGroup c.args.groups.now.items x c.in-Some-group_of.field-0) z
          (subst (λ gs. HasGroup gs c.in-Some.op c.in-Some-group_of.field-0) c.deref.ensures.value c.in-Some-group_of.ensures.found)),
    )) h

pub returns-in_ok-places-in-None : goal.returns-in_ok-places-in-None
returns-in_ok-places-in-None c = λ n e h.
    let new : Group = record { op = c.in-Some.op; places = c.in_ok-places-in-None.places } in
    on_ok_weaker c.put.result
    (λ is. subst (λ (gs : List Group). Grouped c.args.part c.args.rules.now (n + 1) gs) (sym is)
    (grouped_more c.args.part c.args.rules.now n c.args.groups.now.items c.args.rule.now new e (sym c.root_op.ensures ∙ c.in-Some.is) c.in_ok-places-in-None.ensures h))
    c.put.ensures
