use Rattle.bk_dump_laws.proofs.Naming.{text_is_named, text_is_short, name_is_clean, name_is_utf8}
use Rattle.bk_dump_laws.proofs.names_of_texts.Goals as goal

pub returns-clause-named : goal.returns-clause-named
returns-clause-named c text p h = text_is_named text p h

pub returns-clause-clean : goal.returns-clause-clean
returns-clause-clean c name h = (name_is_clean name h, name_is_utf8 name h)

pub returns-clause-signed : goal.returns-clause-signed
returns-clause-signed c text p h = text_is_short text p h
