use Rattle.bk_dump_laws.proofs.Keeping.{read_declares, declares_read}
use Rattle.bk_dump_laws.proofs.accepted_texts.Goals as goal

pub returns : goal.returns
returns c text p = (λ h. read_declares text p h, λ d. declares_read text p d.0 d.1)
