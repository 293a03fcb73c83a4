use Rattle.std.proofs.Common.{subst, ℕ, List, arith}
use Rattle.std.specs.List.{Contains}
use Rattle.bk_places.proofs.Adding.{group_all}
use Rattle.bk_places.proofs.order.add_group.Goals as goal

pub add_states-requires : goal.add_states-requires
add_states-requires c = λ p m. omega (arith, c.requires.size, c.requires.users c.args.group p (subst (λ (us : List ℕ). Contains us p) c.behind.ensures m))

pub add_line-requires : goal.add_line-requires
add_line-requires c = λ p m.
    omega (arith, c.requires.size, c.in_ok-add_states.ensures.size, c.requires.checks c.args.group p (subst (λ (us : List ℕ). Contains us p) c.behind-checks.ensures m))

pub add_loads-requires-clause-within : goal.add_loads-requires-clause-within
add_loads-requires-clause-within c = λ p m.
    omega (
      arith,
      c.requires.size,
      c.in_ok-add_states.ensures.size,
      c.in_ok-add_line.ensures.size,
      c.requires.checks c.args.group p (subst (λ (us : List ℕ). Contains us p) c.behind-checks.ensures m),
    )

pub returns-clause-edges : goal.returns-clause-edges
returns-clause-edges c =
    group_all c.args.takes.now c.args.edges.now c.add_states.new.edges c.add_line.new.edges c.add_loads.new.edges c.args.lists.now c.args.group c.behind.result.now c.behind-2.result.now
    c.behind-checks.result.now c.behind-3.result.now c.behind.ensures c.behind-2.ensures c.behind-checks.ensures c.behind-3.ensures c.in_ok-add_states.ensures c.in_ok-add_line.ensures
    c.in_ok-add_loads.ensures.edges
