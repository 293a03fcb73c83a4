use Rattle.std.proofs.Common.{◌≡◌, ◌+◌, vec_len}
use Rattle.std.specs.List.{All}
use Rattle.bk_share.specs.Passes.{IsPassOf, view}
use Rattle.bk_work.specs.declared.run.Turn.{Turn}
use Rattle.bk_work.specs.Run.{IsFresh}
use Rattle.bk_work.proofs.run.split_off.Given as goal

abbrev pub invariant-loop-worker : goal.invariant-loop-worker
invariant-loop-worker l = record {
  pass : IsPassOf l.share l.pass;
  parts : (view l.pass).parts + l.worker ≡ (view l.initial.pass).parts;
  numbers : (view l.pass).numbers ≡ (view l.initial.pass).numbers;
  len : vec_len l.turns ≡ l.worker;
  fresh : All (λ (t : Turn). IsFresh l.share t.pass) l.turns.items;
}
