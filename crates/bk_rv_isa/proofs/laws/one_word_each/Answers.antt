use Rattle.bk_rv_isa.proofs.Words.{encoding_back, once}
use Rattle.bk_rv_isa.proofs.Back.{decoding_back}
use Rattle.bk_rv_isa.proofs.laws.one_word_each.Goals as goal

pub returns-clause-once : goal.returns-clause-once
returns-clause-once c = once

pub returns-clause-written : goal.returns-clause-written
returns-clause-written c = encoding_back

pub returns-clause-read : goal.returns-clause-read
returns-clause-read c = decoding_back
