use Rattle.std.proofs.Common.{◌≡◌, map, take}
use Rattle.bk_top.specs.Answer.{named_cause, cause_in}
use Rattle.bk_top.proofs.rows.refused.named.Given as goal

abbrev pub invariant-loop-refusal : goal.invariant-loop-refusal
invariant-loop-refusal l = map named_cause l.refused.items ≡ map (cause_in l.pkg) (take l.refusal-index l.refusals)
