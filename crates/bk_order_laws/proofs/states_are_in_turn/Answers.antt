use Rattle.bk_order_laws.proofs.Turns.{in_turn}
use Rattle.bk_order_laws.proofs.states_are_in_turn.Goals as goal

pub returns : goal.returns
returns c = in_turn
