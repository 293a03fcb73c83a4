use Rattle.bk_link.proofs.Sorting.{sorted_is}
use Rattle.bk_link.proofs.cells.sorted_keys.Goals as goal

pub returns : goal.returns
returns c = sorted_is c.args.words.now _ _ c.requires c.in_ok-keys.ensures c.sort_unstable.ensures.permutation c.sort_unstable.ensures.sorted
