use Rattle.std.proofs.Common.{◌∙◌, ap}
use Rattle.bk_piece.specs.Rising.{rising}
use Rattle.bk_work.proofs.Sorting.{distinct_is}
use Rattle.bk_work.proofs.make.places.Goals as goal

pub returns : goal.returns
returns c = distinct_is c.in_ok-places.places.items _ _ c.sort_unstable.ensures.permutation c.sort_unstable.ensures.sorted c.dedup.ensures.filtered ∙ ap rising (c.in_ok-places.ensures.items_if_clones_equal (λ x y e. e))
