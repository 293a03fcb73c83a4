use Rattle.bk_dump_laws.proofs.Expecting.{no_syntax_fault}
use Rattle.bk_dump_laws.proofs.spelled_texts.Goals as goal

pub returns : goal.returns
returns c text ds line s h = no_syntax_fault text ds line s h
