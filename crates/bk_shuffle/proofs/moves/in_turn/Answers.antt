use Rattle.std.proofs.Common.{◌≡◌, ◌*◌, ◌-◌, ◌+◌, ◌++◌, ◌∙◌, List, length, arith, sym, ap, subst}
use Rattle.std.specs.Prelude.{is_some}
use Rattle.std.specs.BTreeMap.{values}
use Rattle.bk_shuffle.specs.Sequence.{Move, sequenced, sequence_of}
use Rattle.bk_shuffle.specs.AtOnce.{DoAll}
use Rattle.bk_shuffle.proofs.Nexts.{pairs_more, pairs_end, pairs_all}
use Rattle.bk_shuffle.proofs.Whole.{sequence_does}
use Rattle.bk_shuffle.proofs.Total.{sequence_counts}
use Rattle.bk_shuffle.proofs.moves.in_turn.Goals as goal

pub returns-in-None : goal.returns-in-None
returns-in-None c =
    let e : c.loop-turn.pairs.items ≡ sequence_of c.args.moves.now =
    pairs_end (length c.args.moves.now * 2) c.loop-turn.turn c.loop-turn.pairs.items (values c.loop-turn.left) (sequence_of c.args.moves.now) (rw c.in-None.is at c.in_ok-pair.ensures.steps) c.loop-turn.invariant.pairs
    in
    record { pairs = e; once = subst (λ (ps : List Move). DoAll c.args.moves.now ps) (sym e) (sequence_does c.args.moves.now c.gather.new.left c.requires.apart c.in_ok-gather.ensures.left c.in_ok-gather.ensures.entries); count = λ heads h. ap length e ∙ sequence_counts c.args.moves.now c.gather.new.left c.requires.apart c.in_ok-gather.ensures.left c.in_ok-gather.ensures.entries heads h }

pub loop-turn-preserved : goal.loop-turn-preserved
loop-turn-preserved c = record {
  known = c.in_ok-pair.ensures.known (ap is_some c.in-Some.is);
  pairs = subst (λ (ps : List Move). ps ++ sequenced (length c.args.moves.now * 2 - (c.loop-turn.turn + 1)) (values c.step.new.left) ≡ sequence_of c.args.moves.now) (sym c.in_ok-push-in-Some.ensures.items)
      (pairs_more (length c.args.moves.now * 2) c.loop-turn.turn c.loop-turn.pairs.items (values c.loop-turn.left) (values c.step.new.left) (sequence_of c.args.moves.now) c.in-Some.pair (omega arith) (rw c.in-Some.is at c.in_ok-pair.ensures.steps)
      c.loop-turn.invariant.pairs);
}

pub returns : goal.returns
returns c =
    let e : c.loop-turn.pairs.items ≡ sequence_of c.args.moves.now =
    pairs_all (length c.args.moves.now * 2) c.loop-turn.turn c.loop-turn.pairs.items (values c.loop-turn.left) (sequence_of c.args.moves.now) (omega arith) c.loop-turn.invariant.pairs
    in
    record { pairs = e; once = subst (λ (ps : List Move). DoAll c.args.moves.now ps) (sym e) (sequence_does c.args.moves.now c.gather.new.left c.requires.apart c.in_ok-gather.ensures.left c.in_ok-gather.ensures.entries); count = λ heads h. ap length e ∙ sequence_counts c.args.moves.now c.gather.new.left c.requires.apart c.in_ok-gather.ensures.left c.in_ok-gather.ensures.entries heads h }
