use Rattle.std.proofs.Common.{◌+◌, ◌++◌, ◌∷◌, [], List, Option, Some, arith, length, subst, sym, ap, ◌∙◌}
use Rattle.bk_piece.specs.Pieces.{PieceRecord}
use Rattle.bk_work.specs.declared.items.Done.{Done}
use Rattle.bk_work.specs.declared.refusals.Refusal.{Refusal}
use Rattle.bk_work.specs.Placed.{AreEnds}
use Rattle.bk_work.proofs.Slots.{one_ready, one_refused}
use Rattle.bk_work.proofs.placing.Ends.note.Goals as goal

pub returns-in-Some-Ready : goal.returns-in-Some-Ready
returns-in-Some-Ready c = λ before ends.
    let pieces = c.args.self.now.pieces.items in let refusals = c.args.self.now.refusals.items in let piece = c.in-Some-Ready.piece in
    subst (λ (ps : List PieceRecord). AreEnds 0 (before ++ c.args.slot ∷ []) ps refusals) (sym c.in_ok-put-in-Some-Ready.ensures)
    (subst (λ (d : Option Done). AreEnds 0 (before ++ d ∷ []) (pieces ++ piece ∷ []) refusals) (sym (c.in-Some-Ready.is ∙ ap (λ (d : Done). Some d) c.in-Some-Ready.field-0-is))
    (one_ready 0 before pieces refusals piece ends))

pub returns-in-Some-Refused : goal.returns-in-Some-Refused
returns-in-Some-Refused c = λ before ends.
    let pieces = c.args.self.now.pieces.items in let refusals = c.args.self.now.refusals.items in let cause = c.in-Some-Refused.cause in
    let noted = c.in_ok-note_refused-in-Some-Refused.ensures in
    let place = length pieces + length refusals in
    let one = one_refused 0 place before pieces refusals cause ends (omega arith) in
    subst (λ (ps : List PieceRecord). AreEnds 0 (before ++ c.args.slot ∷ []) ps c.note_refused.new.self.refusals.items) (sym noted.pieces)
    (subst (λ (rs : List Refusal). AreEnds 0 (before ++ c.args.slot ∷ []) pieces rs) (sym noted.refusals)
    (subst (λ (d : Option Done). AreEnds 0 (before ++ d ∷ []) pieces (refusals ++ record { func = place; cause = cause } ∷ [])) (sym (c.in-Some-Refused.is ∙ ap (λ (d : Done). Some d) c.in-Some-Refused.field-0-is)) one))
