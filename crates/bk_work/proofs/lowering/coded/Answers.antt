use Rattle.std.proofs.Common.{◌∙◌, refl, sym, subst}
use Rattle.bk_func.specs.Records.{FuncRecord}
use Rattle.bk_work.specs.Lowered.{IsCleaned}
use Rattle.bk_work.proofs.lowering.coded.Goals as goal

pub returns-in-None-clause-coded : goal.returns-in-None-clause-coded
returns-in-None-clause-coded c = record {
  cleaned = subst (λ (f : FuncRecord). IsCleaned f c.in_ok-live.live) c.in_ok-copy_func.ensures c.in_ok-live.ensures;
  construct = sym c.first_construct.ensures ∙ c.in-None.is;
}

pub returns-in-Some-clause-cause : goal.returns-in-Some-clause-cause
returns-in-Some-clause-cause c = (
  c.in-Some.value,
  record {
    live = c.in_ok-live.live;
    cleaned = subst (λ (f : FuncRecord). IsCleaned f c.in_ok-live.live) c.in_ok-copy_func.ensures c.in_ok-live.ensures;
    first = sym c.first_construct.ensures ∙ c.in-Some.is;
  },
  refl,
)
