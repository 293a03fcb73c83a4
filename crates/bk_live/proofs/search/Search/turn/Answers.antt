use Rattle.std.proofs.Common.{◌≡◌, ◌∙◌, ◌⊎◌, sym}
use Rattle.std.proofs.lemmas.Bool.{false≢true}
use Rattle.bk_live.specs.Search.{Waits}
use Rattle.bk_live.proofs.Searching.{spreading_on, spreading_by}
use Rattle.bk_live.proofs.search.Search.turn.Goals as goal

pub returns-then-not-is_at : goal.returns-then-not-is_at
returns-then-not-is_at c = λ starts s.
    spreading_by c.args.roads.now.edges.now c.args.roads.now.lengths.now c.args.roads.now.avoided starts c.args.self.now.distances.items c.args.self.now.reached.items
    (λ p d. ((p ≡ c.args.place) × (d ≡ c.args.distance)) ⊎ Waits c.args.self.now p d) (Waits c.args.self.now) c.args.place c.args.distance s (λ p d h. h) (λ e. false≢true (sym c.if-not-is_at.true ∙ c.is_at.ensures.1 e))

pub returns : goal.returns
returns c = λ starts s.
    spreading_on c.args.roads.now.edges.now c.args.roads.now.lengths.now c.args.roads.now.avoided starts c.args.self.now.distances.items c.leave.new.self.distances.items
    c.args.self.now.reached.items c.leave.new.self.reached.items
    (λ p d. ((p ≡ c.args.place) × (d ≡ c.args.distance)) ⊎ Waits c.args.self.now p d) (Waits c.args.self.now) (Waits c.leave.new.self) c.args.place c.args.distance s (λ p d h. h)
    (c.is_at.ensures.0 c.if-not-is_at.false) c.in_ok-leave.ensures.marks c.in_ok-leave.ensures.moves c.in_ok-leave.ensures.near
