use Rattle.std.proofs.Common.{◌∙◌, ap, pos, ◌^◌, ◌*ℤ◌}
use Rattle.std.specs.Int.{int_div_euclid}
use Rattle.bk_num.specs.Word.{residue, signed}
use Rattle.bk_num.proofs.Residues.{high}
use Rattle.bk_num.proofs.hmul_signed.Goals as goal

pub returns : goal.returns
returns c =
    c.residue.ensures
    ∙ ap (residue c.args.w) (high c.sext.result c.sext-2.result (2 ^ c.args.w) (record { sfits = c.sext.type_inv }) (record { sfits = c.sext-2.type_inv }))
    ∙ ap (λ v. residue c.args.w (int_div_euclid (v *ℤ c.sext-2.result) (pos (2 ^ c.args.w)))) c.sext.ensures
    ∙ ap (λ v. residue c.args.w (int_div_euclid (signed c.args.w c.args.x *ℤ v) (pos (2 ^ c.args.w)))) c.sext-2.ensures
