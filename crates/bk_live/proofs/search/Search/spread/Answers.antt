use Rattle.std.proofs.Common.{◌≡◌, ◌⊎◌, sym, subst, ℕ, List, Option, None, replicate, length}
use Rattle.std.specs.BinaryHeap.{heap_items}
use Rattle.bk_live.specs.Search.{Marks, Spreading, Waits}
use Rattle.bk_live.proofs.Searching.{marks_none, spreading_as, spreading_first, spread_least}
use Rattle.bk_live.proofs.Waiting.{waits_none}
use Rattle.bk_live.proofs.search.Search.spread.Goals as goal

pub begin-requires : goal.begin-requires
begin-requires c =
    subst (λ (ls : List (Option ℕ)). Marks ls c.args.self.now.reached.items) (sym c.requires.distances)
    (subst (λ (xs : List ℕ). Marks (replicate (length c.args.roads.now.edges.now) None) xs) (sym c.requires.reached) (marks_none (length c.args.roads.now.edges.now)))

pub loop-init : goal.loop-init
loop-init c =
    spreading_first c.args.roads.now.edges.now c.args.roads.now.lengths.now c.args.roads.now.avoided c.args.starts.now c.args.self.now.distances.items c.begin.new.self.distances.items
    c.begin.new.self.reached.items (Waits c.args.self.now) (Waits c.begin.new.self) c.requires.distances c.in_ok-begin.ensures.marks c.in_ok-begin.ensures.moves c.in_ok-begin.ensures.near

pub turn-requires : goal.turn-requires
turn-requires c =
    subst (λ (ls : List (Option ℕ)). Marks ls c.pop.new.self.reached.items) (sym c.pop.ensures.distances)
    (subst (λ (xs : List ℕ). Marks c.loop.self.distances.items xs) (sym c.pop.ensures.reached) c.loop.invariant.marks)

pub loop-preserved : goal.loop-preserved
loop-preserved c =
    let es = c.args.roads.now.edges.now in
    let ws = c.args.roads.now.lengths.now in
    let avoided = c.args.roads.now.avoided in
    let starts = c.args.starts.now in
    let P = Waits c.loop.self in
    let Q : ℕ → ℕ → Type 0 = λ p d. ((p ≡ c.in-Some.place) × (d ≡ c.in-Some.distance)) ⊎ Waits c.pop.new.self p d in
    c.in_ok-turn.ensures starts
    (spreading_as es ws avoided starts c.pop.new.self.distances.items c.pop.new.self.reached.items P Q c.in-Some.ensures.some
    (subst (λ (ls : List (Option ℕ)). Spreading es ws avoided starts ls c.pop.new.self.reached.items P) (sym c.pop.ensures.distances)
    (subst (λ (xs : List ℕ). Spreading es ws avoided starts c.loop.self.distances.items xs P) (sym c.pop.ensures.reached) c.loop.invariant)))

pub returns-in_default : goal.returns-in_default
returns-in_default c =
    let es = c.args.roads.now.edges.now in
    let ws = c.args.roads.now.lengths.now in
    let avoided = c.args.roads.now.avoided in
    let starts = c.args.starts.now in
    let none = c.in_default.ensures.none in
    let P = Waits c.loop.self in
    let s = subst (λ (ls : List (Option ℕ)). Spreading es ws avoided starts ls c.pop.new.self.reached.items P) (sym c.pop.ensures.distances)
    (subst (λ (xs : List ℕ). Spreading es ws avoided starts c.loop.self.distances.items xs P) (sym c.pop.ensures.reached) c.loop.invariant) in
    record {
      size = s.size;
      marks = s.marks;
      sound = s.sound;
      least = spread_least es ws avoided starts c.pop.new.self.distances.items c.pop.new.self.reached.items P s (waits_none (heap_items c.loop.self.queue) none.0);
      queue = none.1;
    }
