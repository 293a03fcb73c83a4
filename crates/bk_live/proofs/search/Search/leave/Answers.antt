use Rattle.std.proofs.Common.{◌≡◌, ◌+◌, ◌<◌, ◌≤◌, subst, ℕ, List, [], Some, length, get_or}
use Rattle.bk_live.specs.Search.{HasUpTo, Moves, Reaches, Waits, length_at}
use Rattle.bk_live.proofs.Searching.{left_more, left_moves, left_near}
use Rattle.bk_live.proofs.search.Search.leave.Goals as goal

pub loop-next-preserved : goal.loop-next-preserved
loop-next-preserved c =
    let ps = get_or c.args.roads.now.edges.now c.args.place [] in
    let ws = c.args.roads.now.lengths.now in
    let avoided = c.args.roads.now.avoided in
    let distance = c.args.distance in
    let i = c.loop-next.next-index in
    let ms = c.loop-next.self.distances.items in
    let ns = c.step.new.self.distances.items in
    let Q = Waits c.loop-next.self in
    let T = Waits c.step.new.self in
    let e = c.behind-next-items.ensures in
    record {
      marks = c.in_ok-step.ensures.marks;
      left = left_more ps ws avoided distance c.args.self.now.distances.items ms ns (Waits c.args.self.now) Q T i (subst (λ (us : List ℕ). i < length us) e c.loop-next-test.true)
          c.loop-next.invariant.left
          (subst (λ (us : List ℕ). Moves (λ q d. (q ≡ get_or us i 0) × Reaches ws avoided distance q d) ms Q ns T) e c.in_ok-step.ensures.moves)
          (subst (λ (us : List ℕ). (w : ℕ) → get_or us i 0 < length ms → length_at ws avoided (get_or us i 0) ≡ Some w → HasUpTo ns (get_or us i 0) (distance + w)) e
          c.in_ok-step.ensures.near);
    }

pub returns-clause-moves : goal.returns-clause-moves
returns-clause-moves c =
    let i = c.loop-next.next-index in
    left_moves (get_or c.args.roads.now.edges.now c.args.place []) c.args.roads.now.lengths.now c.args.roads.now.avoided c.args.distance c.args.self.now.distances.items
    c.loop-next.self.distances.items (Waits c.args.self.now) (Waits c.loop-next.self) i (subst (λ (us : List ℕ). length us ≤ i) c.behind-next-items.ensures c.loop-next-test.false)
    c.loop-next.invariant.left

pub returns-clause-near : goal.returns-clause-near
returns-clause-near c =
    let i = c.loop-next.next-index in
    left_near (get_or c.args.roads.now.edges.now c.args.place []) c.args.roads.now.lengths.now c.args.roads.now.avoided c.args.distance c.args.self.now.distances.items
    c.loop-next.self.distances.items (Waits c.args.self.now) (Waits c.loop-next.self) i (subst (λ (us : List ℕ). length us ≤ i) c.behind-next-items.ensures c.loop-next-test.false)
    c.loop-next.invariant.left
