use Rattle.std.proofs.Common.{arith, ◌∙◌, ap, pos, ◌^◌, FitsSigned, w64, ◌⊎◌, inl, inr, ◌≡◌, ◌≤◌}
use Rattle.std.specs.Int.{int_div_euclid}
use Rattle.bk_num.specs.Word.{residue}
use Rattle.bk_num.proofs.Residues.{shifted, shift_is}
use Rattle.bk_num.proofs.sar.Goals as goal
use Rattle.bk_num.proofs.sar.Goals.{then-count-lt63, else-count-lt63}

pub returns : goal.returns
returns c =
    let f : FitsSigned w64 c.sext.result = record { sfits = c.sext.type_inv } in
    let by : (c.if-count-lt63.by ≡ c.args.count) ⊎ ((c.if-count-lt63.by ≡ 63) × (63 ≤ c.args.count)) =
    elim c.if-count-lt63.branch [ then-count-lt63 w ↦ inl (omega arith) | else-count-lt63 w ↦ inr (omega arith, omega arith) ] in
    c.residue.ensures
    ∙ ap (residue c.args.w) (shifted c.sext.result (2 ^ c.if-count-lt63.by) f ∙ shift_is c.sext.result c.if-count-lt63.by c.args.count f by)
    ∙ ap (λ v. residue c.args.w (int_div_euclid v (pos (2 ^ c.args.count)))) c.sext.ensures
