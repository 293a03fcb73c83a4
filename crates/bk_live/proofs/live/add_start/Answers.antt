use Rattle.std.proofs.Common.{◌∙◌, refl, ap, ℕ, List, ◌∷◌, ◌++◌, []}
use Rattle.std.specs.BTreeMap.{get}
use Rattle.std.specs.Ordering.{nat_cmp}
use Rattle.bk_live.specs.declared.search.Start.{Start}
use Rattle.bk_live.specs.Prepared.{listed_at}
use Rattle.bk_live.proofs.Beginning.{lists_more}
use Rattle.bk_live.proofs.Homing.{put_here, put_else}
use Rattle.bk_live.proofs.live.add_start.Goals as goal

pub returns : goal.returns
returns c =
    let n = c.args.number in
    let put = c.in_ok-insert.ensures.updates.0 in
    let old = λ (m : ℕ). listed_at (get nat_cmp c.args.starts.now m) in
    let new = λ (m : ℕ). listed_at (get nat_cmp c.insert.new.self m) in
    lists_more old new n c.args.start
    (ap listed_at (put_here n n c.push.new.self (λ m. get nat_cmp c.take_list-list.new.starts m) (get nat_cmp c.insert.new.self n) (put n) refl)
    ∙ (c.in_ok-push.ensures.items ∙ ap (λ (us : List Start). us ++ c.args.start ∷ []) c.take_list-list.ensures.list))
    (λ m apart. ap listed_at (put_else n m c.push.new.self (λ k. get nat_cmp c.take_list-list.new.starts k) (get nat_cmp c.insert.new.self m) (put m) apart ∙ c.take_list-list.ensures.others m apart))
