use Rattle.bk_dump_laws.proofs.WrittenTexts.{written}
use Rattle.bk_dump_laws.proofs.written_texts.Goals as goal

pub returns : goal.returns
returns c p h = written p h
