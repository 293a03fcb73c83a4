use Rattle.std.proofs.Common.{◌≡◌, ◌∙◌, refl, List, [], ◌∷◌, length, arith}
use Rattle.std.specs.BinaryHeap.{heap_items}
use Rattle.bk_live.proofs.Waiting.{waits_less}
use Rattle.bk_live.proofs.search.Search.pop.Goals as goal

empty : {A : Type 0} (xs : List A) → length xs ≡ 0 → xs ≡ []
empty [] e = refl
empty (x ∷ xs) e = absurd (omega arith)

pub returns-in-Some-clause-some : goal.returns-in-Some-clause-some
returns-in-Some-clause-some c = λ p d. waits_less (heap_items c.args.self.now.queue) (heap_items c.pop.new.self) _ c.in-Some.nearest.0.1 c.in-Some.nearest.0.0 c.in-Some.ensures.permutation refl p d

pub returns-in-None-clause-none : goal.returns-in-None-clause-none
returns-in-None-clause-none c =
    let none : heap_items c.args.self.now.queue ≡ [] = empty (heap_items c.args.self.now.queue) (omega (arith, c.in-None.ensures.none, c.args.self.now.queue.data.ok)) in
    (none, c.in-None.ensures.unchanged.0 ∙ none)
