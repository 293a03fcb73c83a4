use Rattle.bk_refine_laws.proofs.Looked.{looked_kept}
use Rattle.bk_refine_laws.proofs.copies_keep_possible_numbers.Goals as goal

pub returns : goal.returns
returns c = looked_kept
