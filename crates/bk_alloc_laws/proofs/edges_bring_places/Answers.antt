use Rattle.bk_alloc_laws.proofs.Edges.{edge_brings}
use Rattle.bk_alloc_laws.proofs.edges_bring_places.Goals as goal

pub returns : goal.returns
returns c = edge_brings
