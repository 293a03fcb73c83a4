use Rattle.bk_dump_laws.proofs.Fitting.{fits}
use Rattle.bk_dump_laws.proofs.RoundTrip.{printed_reads}
use Rattle.bk_dump_laws.proofs.read_again.Goals as goal

pub returns : goal.returns
returns c text p t h formed = printed_reads text p h (fits text p t h formed)
