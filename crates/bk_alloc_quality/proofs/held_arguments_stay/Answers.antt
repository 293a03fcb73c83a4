use Rattle.bk_alloc_quality.proofs.Steps.{nothing_loaded}
use Rattle.bk_alloc_quality.proofs.held_arguments_stay.Goals as goal

pub returns : goal.returns
returns c = λ n keep xs rs h. (let r = nothing_loaded n keep xs rs h in (r.acts, r.same))
