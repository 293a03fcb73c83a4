use Rattle.std.proofs.Common.{◌≡◌, ◌∙◌, sym, refl, ap, [], inl, length}
use Rattle.std.proofs.lemmas.Bool.{false≢true, eq-eqb, eqb-true}
use Rattle.std.proofs.lemmas.List.{nil_from_length}
use Rattle.std.specs.Vec.{vec_len}
use Rattle.bk_form.proofs.Judging.{in_form, refused_for, on_ok, on_err}
use Rattle.bk_form.proofs.check_form_with.Goals as goal

pub returns-then-is_empty : goal.returns-then-is_empty
returns-then-is_empty c =
    let blocks = c.func.inside.blocks in
    let none : c.args.func.now.blocks ≡ [] =
    sym (ap (λ v. v.blocks) c.func.view_is) ∙ nil_from_length blocks.items (sym blocks.ok.0 ∙ eqb-true (vec_len blocks) 0 (sym c.is_empty.ensures ∙ c.if-is_empty.true)) in
    record { ok = tt; fault = inl (none, refl, refl) }

pub returns : goal.returns
returns c =
    let p = c.args.pkg.now in
    let f = c.args.func.now in
    let t = c.args.target in
    let blocks = c.func.inside.blocks in
    let some : f.blocks ≡ [] → ⊥ = λ e.
    false≢true (sym c.if-is_empty.false ∙ (c.is_empty.ensures ∙ eq-eqb (vec_len blocks) 0 (blocks.ok.0 ∙ ap length (ap (λ v. v.blocks) c.func.view_is ∙ e)))) in
    record {
      ok = on_ok c.check_blocks.result _ _ (λ x kept. in_form p t f some kept) c.check_blocks.ensures;
      fault = on_err c.check_blocks.result _ _ (λ e cause. refused_for p t f e some cause) c.check_blocks.ensures;
    }
