use Rattle.bk_core.proofs.Keeps.{each_below}
use Rattle.bk_core.proofs.laws.each_is_drawn.Goals as goal

pub returns : goal.returns
returns c = λ announced parts areas claims count n v k le past has x lt. each_below parts claims count n v k.rule.counted le past has x lt
