use Rattle.std.proofs.Common.{subst, sym, [], List}
use Rattle.bk_piece.specs.Pieces.{PieceRecord}
use Rattle.bk_work.specs.declared.refusals.Refusal.{Refusal}
use Rattle.bk_work.specs.Placed.{AreEnds, no_ends}
use Rattle.bk_work.proofs.placing.Ends.new.Goals as goal

pub loop-slot-init : goal.loop-slot-init
loop-slot-init c = record {
  all = sym c.into_iter-slot-iterator.ensures.into_iter_gives.0;
  made = subst (λ (ps : List PieceRecord). AreEnds 0 [] ps c.new-2.result.items) (sym c.new.ensures.items)
      (subst (λ (rs : List Refusal). AreEnds 0 [] [] rs) (sym c.new-2.ensures.items) (no_ends 0));
}
