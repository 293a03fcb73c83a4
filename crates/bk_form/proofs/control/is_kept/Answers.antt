use Rattle.std.proofs.Common.{◌≡◌, ◌∙◌, sym, ap, [], true, arith}
use Rattle.std.proofs.lemmas.Bool.{false≢true, eqb-true}
use Rattle.std.proofs.lemmas.List.{nil_from_length}
use Rattle.std.specs.Vec.{vec_len}
use Rattle.bk_func.specs.Form.Text.{IsEntry}
use Rattle.bk_func.specs.Form.Parts.{FitsKind}
use Rattle.bk_form.specs.Edges.{all_from, all_to, is_torn}
use Rattle.bk_form.proofs.Edges.{kept_or_torn}
use Rattle.bk_form.proofs.control.is_kept.Goals as goal
use Rattle.bk_form.proofs.control.is_kept.Goals.{then-place-ne0, else-place-ne0, then-is_empty, else-is_empty}

pub returns-then-fits_kind : goal.returns-then-fits_kind
returns-then-fits_kind c =
    let f = c.args.func.now in
    let b = c.args.block.now in
    let torn : c.contains.result ≡ is_torn (all_from f) (all_to f) b.id =
    c.contains.ensures ∙ (c.requires.torn c.block.inside.id ∙ ap (λ v. is_torn (all_from f) (all_to f) v.id) c.block.view_is) in
    let kind : FitsKind b.kind b.succs b.control = elim c.if-is_empty.branch [
      | then-is_empty w ↦ w.fits_kind.ensures.0 (sym w.value-is ∙ c.if-fits_kind.true)
      | else-is_empty w ↦ absurd (false≢true (sym (w.value-is ∙ w.if-is_empty.false) ∙ c.if-fits_kind.true))
    ] in
    let alone : c.if-place-ne0.value ≡ true = elim c.if-is_empty.branch [
      | then-is_empty w ↦ w.if-is_empty.true
      | else-is_empty w ↦ sym w.value-is ∙ c.if-fits_kind.true
    ] in
    let entry : IsEntry f b → b.preds ≡ [] = elim c.if-place-ne0.branch [
      | then-place-ne0 w ↦ c.requires.entry (omega arith) b
      | else-place-ne0 w ↦ λ _.
          let none = eqb-true (vec_len c.block.inside.preds) 0 (sym w.is_empty.ensures ∙ (sym w.value-is ∙ alone)) in
          sym (ap (λ v. v.preds) c.block.view_is) ∙ nil_from_length c.block.inside.preds.items (sym c.block.inside.preds.ok.0 ∙ none)
    ] in
    kept_or_torn f b c.contains.result kind entry torn
