use Rattle.bk_arm_isa.proofs.Decoded.{encoding_decoding, decoding_encoding, encoding_unique}
use Rattle.bk_arm_isa.proofs.Widths.{encoding_below}
use Rattle.bk_arm_isa.proofs.laws.one_word_each.Goals as goal

pub returns-clause-inverse : goal.returns-clause-inverse
returns-clause-inverse c i n = (encoding_decoding n i, decoding_encoding i n)

pub returns-clause-unique : goal.returns-clause-unique
returns-clause-unique c i j n e f = encoding_unique i j n e f

pub returns-clause-width : goal.returns-clause-width
returns-clause-width c i n e = encoding_below i n e
