use Rattle.bk_order_laws.proofs.Turns.{in_turn}
use Rattle.bk_order_laws.proofs.BaseSuffices.{base_suffices}
use Rattle.bk_order_laws.proofs.the_base_suffices.Goals as goal

pub returns : goal.returns
returns c = λ s f k b r n. base_suffices f b (in_turn s f k b r) n
