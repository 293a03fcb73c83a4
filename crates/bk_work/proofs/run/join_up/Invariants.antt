use Rattle.std.proofs.Common.{◌≡◌, ◌+◌, length}
use Rattle.std.specs.List.{All}
use Rattle.std.specs.List.{Contains}
use Rattle.bk_share.specs.Passes.{IsPassOf, view}
use Rattle.bk_work.specs.Rounds.{IsItem}
use Rattle.bk_work.specs.Run.{AreDrawn, IsShift}
use Rattle.bk_work.proofs.run.join_up.Given as goal

abbrev pub invariant-loop-shift : goal.invariant-loop-shift
invariant-loop-shift l = record {
  pass : IsPassOf l.round.share l.pass;
  parts : (view l.pass).parts ≡ (view l.initial.pass).parts + length l.yielded;
  left : All (IsShift l.round) l.shift-iterator.rest.items;
  drawn : AreDrawn (length l.round.order.now) (length l.yielded) (view l.initial.pass).numbers (view l.pass).numbers l.items.items;
  items : All (IsItem l.round.pkg.now l.round.target l.round.job l.round.order.now (Contains (view l.pass).known)) l.items.items;
}
