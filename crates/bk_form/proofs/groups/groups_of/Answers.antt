use Rattle.std.proofs.Common.{subst, ℕ, List, Option}
use Rattle.std.proofs.lemmas.Result.{IfOk-weaker}
use Rattle.bk_form.specs.Groups.{AreGroups}
use Rattle.bk_form.specs.Names.{measure}
use Rattle.bk_form.proofs.Copied.{values_named}
use Rattle.bk_form.proofs.Grouping.{groups_named}
use Rattle.bk_form.proofs.groups.groups_of.Goals as goal

pub returns : goal.returns
returns c =
    let f = c.args.flow.now.scope.func.now in
    IfOk-weaker c.groups.result _ _
    (λ gs h. groups_named f (values_named (measure c.args.flow.now.scope) f c.requires.flow.named) c.args.names.now c.requires.names c.in_ok-keys.keys.items gs.items
    (subst (λ (ks : List (Option (ℕ × ℕ))). AreGroups ks gs.items) c.deref.ensures.value h) c.in_ok-keys.ensures.size c.in_ok-keys.ensures.each)
    c.groups.ensures
