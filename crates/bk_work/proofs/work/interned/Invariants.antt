use Rattle.std.proofs.Common.{take}
use Rattle.std.specs.List.{Contains}
use Rattle.bk_share.specs.Passes.{IsPassOf, view}
use Rattle.bk_work.specs.Each.{Each}
use Rattle.bk_work.specs.Rounds.{IsHandle, KnowsOn}
use Rattle.bk_work.proofs.work.interned.Given as goal

abbrev pub invariant-loop-key : goal.invariant-loop-key
invariant-loop-key l = record {
  pass : IsPassOf l.share l.pass;
  knows : KnowsOn (view l.initial.pass) (view l.pass);
  handles : Each (IsHandle (Contains (view l.pass).known)) (take l.key-index l.keys) l.handles.items;
}
