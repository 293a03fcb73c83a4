use Rattle.std.proofs.Common.{◌∙◌, sym, ap, length}
use Rattle.std.specs.Prelude.{slice_index}
use Rattle.bk_emit.specs.Code.{widths, places_from, words_from, waits_from}
use Rattle.bk_emit.specs.Tables.{line_of}
use Rattle.bk_emit.proofs.Assembled.{written_is}
use Rattle.bk_emit.proofs.pieces.piece_of.Goals as goal

pub code_of-requires : goal.code_of-requires
code_of-requires g c =
    ap length c.deref-4.ensures.value ∙ (c.in_ok-widths.ensures.long ∙ ap length c.deref.ensures.value)

pub handles_of-requires : goal.handles_of-requires
handles_of-requires g c =
    ap length c.deref-7.ensures.value ∙ (c.in_ok-widths.ensures.long ∙ (ap length c.deref.ensures.value ∙ sym (ap length c.deref-6.ensures.value)))

pub returns-clause-written : goal.returns-clause-written
returns-clause-written g c =
    let s = line_of c.args.lines.now.starts in
    let ls = c.args.lines.now.lines.items in
    let ps = c.in_ok-places.places.items in
    let ws = c.in_ok-widths.widths.items in
    written_is g.M.Machine.forms s ls c.in_ok-sizes.sizes.items ws ps c.in_ok-code.code.items c.in_ok-handles.handles.items c.in_ok-sizes.ensures
    (c.in_ok-widths.ensures.words ∙ (ap (λ x. widths x c.deref.result.now) c.deref-2.ensures.value ∙ ap (λ x. widths c.in_ok-sizes.sizes.items x) c.deref.ensures.value))
    (c.in_ok-places.ensures ∙ ap (λ x. places_from 0 x) c.deref-3.ensures.value)
    (c.in_ok-code.ensures ∙ (ap (λ x. words_from g.M.Machine.forms (λ n. slice_index x (s n)) 0 c.deref-4.result.now ls) c.deref-5.ensures.value ∙ ap (λ x. words_from g.M.Machine.forms (λ n. slice_index ps (s n)) 0 x ls) c.deref-4.ensures.value))
    (c.in_ok-handles.ensures ∙ (ap (λ x. waits_from 0 x c.deref-6.result.now) c.deref-7.ensures.value ∙ ap (λ x. waits_from 0 ws x) c.deref-6.ensures.value))
