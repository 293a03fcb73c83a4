use Rattle.std.proofs.Common.{◌≡◌, ℕ, get_or, arith}
use Rattle.std.specs.List.{Contains}
use Rattle.bk_places.proofs.Adding.{each_none, each_more, each_all, adds_same}
use Rattle.bk_places.proofs.order.add_states.Goals as goal

pub add_before-requires : goal.add_before-requires
add_before-requires c = λ p m. omega (arith, c.loop-next.invariant.size, c.requires p m)

pub loop-next-init : goal.loop-next-init
loop-next-init c = each_none c.args.edges.now c.args.nexts.now (λ (p q : ℕ). Contains c.args.users.now p)

pub loop-next-preserved : goal.loop-next-preserved
loop-next-preserved c =
    let xs = c.args.nexts.now in
    let i = c.loop-next.next-index in
    each_more c.args.edges.now c.loop-next.edges c.add_before.new.edges xs i (λ (p q : ℕ). Contains c.args.users.now p) c.loop-next-test.true c.loop-next.invariant
    (adds_same c.loop-next.edges c.add_before.new.edges (λ p q. Contains c.args.users.now p × (q ≡ get_or xs i 0)) (λ p q. (q ≡ get_or xs i 0) × Contains c.args.users.now p) c.in_ok-add_before.ensures
    (λ p q. ((λ (a, b). (b, a)), (λ (b, a). (a, b)))))

pub returns : goal.returns
returns c =
    adds_same c.args.edges.now c.loop-next.edges (λ p q. Contains c.args.nexts.now q × Contains c.args.users.now p) (λ p q. Contains c.args.users.now p × Contains c.args.nexts.now q)
    (each_all c.args.edges.now c.loop-next.edges c.args.nexts.now c.loop-next.next-index (λ (p q : ℕ). Contains c.args.users.now p) c.loop-next-test.false c.loop-next.invariant)
    (λ p q. ((λ (a, b). (b, a)), (λ (b, a). (a, b))))
