use Rattle.std.proofs.Common.{rules, ◌≡◌, ◌∙◌, sym, ap, subst, ℕ, List, Option, length, None, get_or, arith}
use Rattle.std.proofs.lemmas.Result.{IfOk-weaker}
use Rattle.bk_func.specs.Form.Before.{IsNilCheck}
use Rattle.bk_places.proofs.Leading.{AreRightBefore}
use Rattle.bk_places.specs.Order.{HasRole}
use Rattle.bk_sched.specs.Arranged.{AreLists}
use Rattle.bk_places.specs.declared.role.Role.TheVariants.{User}
use Rattle.bk_sched.proofs.Arranging.{order_is, takes_within, listed_within}
use Rattle.bk_sched.proofs.order.order_of.Goals as goal

pub list_members-requires-clause-size : goal.list_members-requires-clause-size
list_members-requires-clause-size c = ap length c.deref.ensures.value ∙ c.in_ok-names.ensures.size

pub list_members-requires-clause-names : goal.list_members-requires-clause-names
list_members-requires-clause-names c = λ p g e.
    let low = c.in_ok-names.ensures.within p g (sym (ap (λ (us : List (Option ℕ)). get_or us p None) c.deref.ensures.value) ∙ e) in
    let states : c.len-states.result ≡ length c.in_ok-places.places.numbers.items = search rules in
    omega (arith, low, states)

pub order_edges-requires-clause-takes : goal.order_edges-requires-clause-takes
order_edges-requires-clause-takes c = takes_within c.args.block.now c.in_ok-takes.takes c.in_ok-takes.ensures

pub order_edges-requires-clause-checks : goal.order_edges-requires-clause-checks
order_edges-requires-clause-checks c =
    listed_within c.args.block.now c.deref.result.now c.in_ok-takes.takes c.in_ok-takes.ensures IsNilCheck c.in_ok-lists.lists.checks c.in_ok-lists.ensures.checks

pub order_edges-requires-clause-users : goal.order_edges-requires-clause-users
order_edges-requires-clause-users c =
    listed_within c.args.block.now c.deref.result.now c.in_ok-takes.takes c.in_ok-takes.ensures (HasRole User) c.in_ok-lists.lists.users c.in_ok-lists.ensures.users

pub returns : goal.returns
returns c =
    let b = c.args.block.now in
    let es = c.in_ok-takes.takes in
    let ls = c.in_ok-lists.lists in
    let ns = c.in_ok-places.places.numbers.items in
    let states : c.len-states.result ≡ length ns = search rules in
    let lists = subst (λ (gs : List (Option ℕ)). AreLists b.values gs ls) c.deref.ensures.value c.in_ok-lists.ensures in
    IfOk-weaker c.order_edges.result _ _
    (λ ds h. order_is b c.requires ns c.in_ok-names.names.items c.in_ok-names.ensures es c.in_ok-takes.ensures ls lists ds (subst (λ (n : ℕ). AreRightBefore es ls n ds) states h))
    c.order_edges.ensures
