use Rattle.bk_graph_laws.proofs.Cleaning.{one_cleaned}
use Rattle.bk_graph_laws.proofs.cleans_once.Goals as goal

pub returns : goal.returns
returns c = one_cleaned
