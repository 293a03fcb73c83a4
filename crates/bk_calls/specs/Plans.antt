-- What the tables of a function say.
use Rattle.std.specs.Prelude.{ℕ, unwrap_or}
use Rattle.std.specs.BTreeMap.{get}
use Rattle.std.specs.Ordering.{nat_cmp, ordering_then}
use Rattle.std.specs.declared.cmp.Ordering.{Ordering}
use Rattle.bk_calls.specs.Chains.{WordPlan}
use Rattle.bk_calls.specs.declared.plan.Plan.{Plan}

-- the order of pairs of numbers
abbrev pub pair_cmp : ℕ × ℕ → ℕ × ℕ → Ordering
pair_cmp x y = ordering_then (nat_cmp x.0 y.0) (nat_cmp x.1 y.1)

abbrev pub seen_plan : Plan → WordPlan
seen_plan p = record {
  registers = p.registers;
  arguments = λ i. unwrap_or (get nat_cmp p.arguments i) 0;
  results = λ n. unwrap_or (get nat_cmp p.results n) 0;
  firsts = λ k. unwrap_or (get pair_cmp p.firsts k) 0;
  ends = λ n. get nat_cmp p.ends n;
  own = p.own;
}
