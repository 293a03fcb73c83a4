use Rattle.std.proofs.Common.{◌≡◌, ℕ}
use Rattle.std.specs.BTreeSet.{contains}
use Rattle.std.specs.Ordering.{nat_cmp}
use Rattle.bk_func.specs.Records.{FuncRecord}
use Rattle.bk_live.specs.Live.{names_phi}
use Rattle.bk_live.proofs.Counting.{CountsUpTo}
use Rattle.bk_live.proofs.counts.row_of.Given as goal

abbrev pub invariant-loop-number : goal.invariant-loop-number
invariant-loop-number l = (f : FuncRecord) → ((x : ℕ) → contains nat_cmp l.phis x ≡ names_phi f x) → CountsUpTo f l.order l.number-index l.count l.row.items
