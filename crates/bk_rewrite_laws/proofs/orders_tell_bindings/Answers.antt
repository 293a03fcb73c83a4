use Rattle.bk_rewrite_laws.proofs.Matching.{same_bindings}
use Rattle.bk_rewrite_laws.proofs.orders_tell_bindings.Goals as goal

pub returns : goal.returns
returns c = same_bindings
