use Rattle.bk_rewrite_laws.proofs.Visiting.{pass_grown}
use Rattle.bk_rewrite_laws.proofs.passes_keep_numbers.Goals as goal

pub returns : goal.returns
returns c = λ t rules f g u x. (pass_grown t rules f g u x).numbers
