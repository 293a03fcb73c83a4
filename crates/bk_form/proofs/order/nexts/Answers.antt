use Rattle.std.proofs.Common.{◌≡◌, ◌∙◌, sym, subst, Bool, List, length, arith}
use Rattle.std.proofs.lemmas.Result.{IfOk-weaker}
use Rattle.bk_places.proofs.Filling.{filled_more}
use Rattle.bk_form.specs.Arranged.{IsNextAt}
use Rattle.bk_form.specs.Groups.{ArePicked}
use Rattle.bk_form.proofs.Grouping.{listed_of, picked_all, next_is}
use Rattle.bk_form.proofs.order.nexts.Goals as goal

pub loop-home-preserved : goal.loop-home-preserved
loop-home-preserved c =
    filled_more c.loop-home.invariant c.is_some-is_state.result c.push.new.self.items
    (λ m e. next_is c.args.flow.now.scope.func.now c.args.homes.now c.requires.homes c.loop-home.home-index m c.is_some-is_state.result c.is_some-is_state.ensures) c.in_ok-push.ensures.items

pub members-requires : goal.members-requires
members-requires c = λ p g e. omega (arith, c.requires.groups.within p g e, c.requires.groups.size)

pub returns : goal.returns
returns c =
    let f = c.args.flow.now.scope.func.now in
    let end : c.loop-home.home-index ≡ length c.args.homes.now = omega arith in
    let picked = picked_all f (IsNextAt f) c.loop-home.picked.items c.loop-home.home-index (end ∙ c.requires.homes.size) c.loop-home.invariant in
    IfOk-weaker c.members.result _ _
    (λ es h. listed_of f c.args.groups.now c.requires.groups (IsNextAt f) c.deref.result.now es (subst (λ (bs : List Bool). ArePicked f (IsNextAt f) bs) (sym c.deref.ensures.value) picked) h)
    c.members.ensures
