use Rattle.bk_alloc_laws.proofs.Whole.{holds_as}
use Rattle.bk_alloc_laws.proofs.places_outlast_changes.Goals as goal

pub returns : goal.returns
returns c = holds_as
