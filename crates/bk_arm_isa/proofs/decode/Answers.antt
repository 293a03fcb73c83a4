use Rattle.std.proofs.Common.{◌∙◌, sym}
use Rattle.bk_arm_isa.proofs.Decoded.{encoding_decoding, decoding_encoding}
use Rattle.bk_arm_isa.proofs.decode.Goals as goal

pub returns-clause-inverse : goal.returns-clause-inverse
returns-clause-inverse c i = (
  λ h. encoding_decoding c.args.word i (sym c.decode.ensures ∙ h),
  λ e. c.decode.ensures ∙ decoding_encoding i c.args.word e,
)
