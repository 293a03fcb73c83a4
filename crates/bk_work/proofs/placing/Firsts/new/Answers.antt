use Rattle.std.proofs.Common.{subst, sym, [], List, Option}
use Rattle.bk_work.specs.declared.refusals.Cause.{Cause}
use Rattle.bk_work.specs.Placed.{AreFirsts, no_firsts}
use Rattle.bk_work.specs.Rounds.{Entry}
use Rattle.bk_work.proofs.placing.Firsts.new.Goals as goal

pub loop-slot-init : goal.loop-slot-init
loop-slot-init c = record {
  all = sym c.into_iter-slot-iterator.ensures.into_iter_gives.0;
  made = subst (λ (es : List Entry). AreFirsts [] es c.new-2.result.items) (sym c.new.ensures.items)
      (subst (λ (cs : List (Option Cause)). AreFirsts [] [] cs) (sym c.new-2.ensures.items) no_firsts);
}
