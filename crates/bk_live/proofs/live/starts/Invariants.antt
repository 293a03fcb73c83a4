use Rattle.std.proofs.Common.{ℕ}
use Rattle.std.specs.BTreeMap.{get}
use Rattle.std.specs.List.{Contains}
use Rattle.std.specs.Ordering.{nat_cmp}
use Rattle.bk_live.specs.declared.search.Start.{Start}
use Rattle.bk_live.specs.Adds.{Adds, Some_before}
use Rattle.bk_live.specs.Homes.{home, IsBehind}
use Rattle.bk_live.specs.Prepared.{Gives, listed_at}
use Rattle.bk_live.proofs.live.starts.Given as goal

abbrev pub invariant-loop-used : goal.invariant-loop-used
invariant-loop-used l =
    Adds (λ (e : ℕ × Start). ⊥) (Some_before l.uses (Gives l.counts (IsBehind (home l.homes))) l.used-index) (λ (e : ℕ × Start). Contains (listed_at (get nat_cmp l.starts e.0)) e.1)
