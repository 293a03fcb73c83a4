use Rattle.std.proofs.Common.{◌≡◌, true}
use Rattle.std.specs.BTreeSet.{contains}
use Rattle.std.specs.List.Sorted.{IsStrictlySortedBy}
use Rattle.bk_live.specs.Adds.{Adds, Some_before}
use Rattle.bk_live.specs.Table.{use_cmp}
use Rattle.bk_live.proofs.Spotting.{IsKeyOf, Key}
use Rattle.bk_live.proofs.sets.set_of.Given as goal

abbrev pub invariant-loop-used : goal.invariant-loop-used
invariant-loop-used l = record {
  ordered : IsStrictlySortedBy use_cmp l.set.keys;
  uses : Adds (λ (e : Key). ⊥) (Some_before l.uses IsKeyOf l.used-index) (λ (e : Key). contains use_cmp l.set e ≡ true);
}
