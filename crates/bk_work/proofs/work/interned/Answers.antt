use Rattle.std.proofs.Common.{◌≡◌, ◌++◌, ◌∷◌, ◌+◌, ◌<◌, [], ℕ, List, get_or, length, take}
use Rattle.std.specs.List.{Contains}
use Rattle.std.proofs.lemmas.List.{get_or_default}
use Rattle.bk_piece.specs.declared.Handle.{Handle}
use Rattle.bk_piece.specs.declared.Key.{Key}
use Rattle.bk_share.specs.Passes.{view}
use Rattle.bk_work.specs.Each.{Each}
use Rattle.bk_work.specs.Rounds.{Holds, IsHandle}
use Rattle.bk_work.proofs.Grow.{handles_grow, knows_on, knows_same}
use Rattle.bk_work.proofs.Pairs.{each_next, each_none}
use Rattle.bk_work.proofs.work.interned.Goals as goal

one_more : (P : Holds) (keys : List Key) (i : ℕ) (none : Key) (before after : List Handle) (h : Handle) → i < length keys → Each (IsHandle P) (take i keys) before → IsHandle P (get_or keys i none) h
    → after ≡ before ++ h ∷ [] → Each (IsHandle P) (take (i + 1) keys) after
one_more P keys i none before after h lt each is grown =
    each_next (IsHandle P) keys i (get_or keys i none) before after h lt (get_or_default keys i none (get_or keys i none) lt) each is grown

pub loop-key-init : goal.loop-key-init
loop-key-init c = record {
  pass = c.requires.pass;
  knows = knows_same (view c.args.pass.now);
  handles = each_none (IsHandle (Contains (view c.args.pass.now).known)) c.args.keys.now c.in_ok-handles.handles.items c.in_ok-handles.ensures.items;
}

pub returns-in_err-put-clause-knows : goal.returns-in_err-put-clause-knows
returns-in_err-put-clause-knows c = knows_on (view c.args.pass.now) (view c.loop-key.pass) (view c.intern-handle.new.pass) c.loop-key.invariant.knows c.intern-handle.ensures.knows

pub loop-key-preserved : goal.loop-key-preserved
loop-key-preserved c =
    let p = view c.loop-key.pass in let q = view c.intern-handle.new.pass in record {
      pass = c.intern-handle.ensures.pass;
      knows = knows_on (view c.args.pass.now) p q c.loop-key.invariant.knows c.intern-handle.ensures.knows;
      handles = one_more (Contains q.known) c.args.keys.now c.loop-key.key-index (record { area = 0; key = 0 }) c.loop-key.handles.items c.put.new.list.items c.intern-handle.result c.loop-key-test.true
          (handles_grow (Contains p.known) (Contains q.known) (take c.loop-key.key-index c.args.keys.now) c.loop-key.handles.items c.intern-handle.ensures.knows.known c.loop-key.invariant.handles)
          c.intern-handle.ensures.handle c.in_ok-put.ensures;
    }
