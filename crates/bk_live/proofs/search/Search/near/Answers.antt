use Rattle.std.proofs.Common.{◌≡◌, ◌∙◌, ◌<◌, sym, refl, subst, ℕ, List, Option, None, Some, length, get_or, set, arith, get_or-set_same}
use Rattle.std.specs.BinaryHeap.{heap_items}
use Rattle.std.specs.declared.cmp.Reverse.{Reverse}
use Rattle.std.proofs.lemmas.Bool.{false≢true}
use Rattle.bk_live.specs.Search.{Marks, Moves, Waits, WaitsIn, more_listed}
use Rattle.bk_live.proofs.Searching.{marks_more, moves_near}
use Rattle.bk_live.proofs.Waiting.{not_nearer, waits_more, waits_here}
use Rattle.bk_live.proofs.search.Search.near.Goals as goal

pub returns-then-not-is_nearer-clause-near : goal.returns-then-not-is_nearer-clause-near
returns-then-not-is_nearer-clause-near c =
    not_nearer c.args.self.now.distances.items c.args.place c.args.distance (λ h. false≢true (sym c.if-not-is_nearer.true ∙ c.is_nearer.ensures.1 h))

pub returns-clause-marks : goal.returns-clause-marks
returns-clause-marks c =
    let ls = c.args.self.now.distances.items in
    let xs = c.args.self.now.reached.items in
    let p = c.args.place in
    let d = c.args.distance in
    let nearer = c.is_nearer.ensures.0 c.if-not-is_nearer.false in
    subst (λ (ys : List ℕ). Marks (set c.list.new.self.distances.items p (Some d)) ys) (sym c.in_ok-list.ensures.reached)
    (subst (λ (ms : List (Option ℕ)). Marks (set ms p (Some d)) (more_listed (get_or ls p None) xs p)) (sym c.list.ensures.distances)
    (marks_more ls xs p d (get_or ls p None) refl nearer.0 c.requires))

pub returns-clause-moves : goal.returns-clause-moves
returns-clause-moves c =
    let ls = c.args.self.now.distances.items in
    let p = c.args.place in
    let d = c.args.distance in
    let nearer = c.is_nearer.ensures.0 c.if-not-is_nearer.false in
    let before = heap_items c.list.new.self.queue in
    let after = heap_items c.push.new.self in
    let perm = c.in_ok-push.ensures.permutation in
    subst (λ (ms : List (Option ℕ)). Moves (λ q e. (q ≡ p) × (e ≡ d)) ls (Waits c.args.self.now) (set ms p (Some d)) (WaitsIn after)) (sym c.list.ensures.distances)
    (moves_near ls (Waits c.args.self.now) (WaitsIn after) p d nearer.0 nearer.1
    (λ q e w. waits_more before after _ perm q e (subst (λ (us : List (Reverse (ℕ × ℕ))). WaitsIn us q e) (sym c.list.ensures.queue) w))
    (waits_here before after _ p d perm refl))

pub returns-clause-near : goal.returns-clause-near
returns-clause-near c = λ within.
    let ls = c.args.self.now.distances.items in
    let inside : c.args.place < length c.list.new.self.distances.items =
    subst (λ (ms : List (Option ℕ)). c.args.place < length ms) (sym c.list.ensures.distances) within in
    (c.args.distance, get_or-set_same c.list.new.self.distances.items c.args.place (Some c.args.distance) None inside, omega arith)
