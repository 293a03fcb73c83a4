use Rattle.std.proofs.Common.{ℕ, ◌+◌, ◌-◌, ◌<◌, ◌^◌}
use Rattle.bk_func.specs.Records.{FuncRecord}
use Rattle.bk_rewrite.specs.Places.{value_limit, HasNumbers}
use Rattle.bk_rewrite.specs.Passes.{IsCounted, Changes}
use Rattle.bk_rewrite.proofs.passing.rewrite_by.Given as goal

abbrev pub invariant-loop-pass : goal.invariant-loop-pass
invariant-loop-pass l = record {
  room : l.counts.greatest + (value_limit - l.counts.values) < 2 ^ 32;
  counted : HasNumbers l.initial.func → IsCounted l.counts.greatest (value_limit - l.counts.values) l.func;
  changes : HasNumbers l.initial.func → (m : ℕ) (g : FuncRecord) → Changes l.target l.rules m l.func g → Changes l.target l.rules (l._pass + m) l.initial.func g;
}
