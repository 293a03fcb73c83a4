use Rattle.std.proofs.Common.{◌+◌, ◌-◌, ◌<◌, ◌^◌, drop}
use Rattle.bk_func.specs.Records.{FuncRecord}
use Rattle.bk_rewrite.specs.Places.{value_limit}
use Rattle.bk_rewrite.specs.Passes.{IsCounted, VisitsEach, StopsAmong}
use Rattle.bk_rewrite.proofs.passing.visit_all.Given as goal

abbrev pub invariant-loop-id : goal.invariant-loop-id
invariant-loop-id l = record {
  room : l.counts.greatest + (value_limit - l.counts.values) < 2 ^ 32;
  counted : IsCounted l.initial.counts.greatest (value_limit - l.initial.counts.values) l.initial.func → IsCounted l.counts.greatest (value_limit - l.counts.values) l.func;
  visits : IsCounted l.initial.counts.greatest (value_limit - l.initial.counts.values) l.initial.func → (g : FuncRecord) →
      VisitsEach l.target l.ruled.rules.now (drop l.id-index l.ids) l.func g → VisitsEach l.target l.ruled.rules.now l.ids l.initial.func g;
  stops : IsCounted l.initial.counts.greatest (value_limit - l.initial.counts.values) l.initial.func →
      StopsAmong l.target l.ruled.rules.now (drop l.id-index l.ids) l.func → StopsAmong l.target l.ruled.rules.now l.ids l.initial.func;
}
