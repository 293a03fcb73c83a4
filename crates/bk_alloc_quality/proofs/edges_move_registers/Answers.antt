use Rattle.bk_alloc_quality.proofs.Edges.{edge_moves}
use Rattle.bk_alloc_quality.proofs.edges_move_registers.Goals as goal

pub returns : goal.returns
returns c = edge_moves
