use Rattle.std.proofs.Common.{◌∙◌, sym}
use Rattle.bk_rv_isa.specs.Encoding.{decoding}
use Rattle.bk_rv_isa.proofs.Back.{inverse}
use Rattle.bk_rv_isa.proofs.decoder.decode.Goals as goal

pub returns-clause-inverse : goal.returns-clause-inverse
unfolding decoding
returns-clause-inverse c = λ i.
    let e = c.by_opcode.ensures in
    let l = inverse c.args.word i c.ranges.word.fits in
    (λ h. l.0 (sym e ∙ h), λ h. e ∙ l.1 h)
