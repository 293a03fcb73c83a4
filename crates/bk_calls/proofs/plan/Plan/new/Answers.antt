use Rattle.std.proofs.Common.{ap, rules, ℕ, Option}
use Rattle.std.specs.Option.{unwrap_or}
use Rattle.bk_calls.proofs.Planned.{planned}
use Rattle.bk_calls.proofs.plan.Plan.new.Goals as goal

pub returns-clause-plan : goal.returns-clause-plan
returns-clause-plan c =
    planned c.args.pkg.now c.args.target c.args.func.now _ c.deref.result.now c.deref-2.result.now c.deref-3.result.now c.deref-4.result.now
    (search rules) (search rules) (search rules) (search rules) c.register_count-registers.ensures.value
    (λ i. ap (λ (o : Option ℕ). unwrap_or o 0) (c.requires.arguments i)) (λ n. ap (λ (o : Option ℕ). unwrap_or o 0) (c.in_ok-results.ensures n))
    (λ k. ap (λ (o : Option ℕ). unwrap_or o 0) (c.in_ok-firsts.ensures k)) (λ n. c.in_ok-ends.ensures n) c.in_ok-own.ensures
