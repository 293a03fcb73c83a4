use Rattle.std.proofs.Common.{◌≡◌, ◌∙◌, ◌≤◌, sym, ap, subst, ℕ, List, [], length, replicate, None, arith}
use Rattle.std.specs.List.{Contains}
use Rattle.std.proofs.lemmas.List.{length-replicate}
use Rattle.bk_places.specs.Order.{Adds}
use Rattle.bk_places.proofs.Adding.{TakenBelow, BeforeBelow, taken_none, taken_more, before_taken, before_group}
use Rattle.bk_places.proofs.order.order_edges.Goals as goal

pub loop-place-init : goal.loop-place-init
loop-place-init c =
    let es = c.args.takes.now in
    let none = c.in_ok-edges.ensures ∙ ap (λ n. replicate {A = List ℕ} n []) c.len-count.ensures in
    subst (λ (ds : List (List ℕ)). Adds (replicate (length es) []) (TakenBelow es 0) ds) (sym none) (taken_none es (replicate (length es) []))

pub add_before-requires : goal.add_before-requires
add_before-requires c = λ p m.
    let low = c.requires.takes c.loop-place.place p (subst (λ (us : List ℕ). Contains us p) c.behind.ensures m) in
    omega (arith, low, c.loop-place.invariant.size, length-replicate {A = List ℕ} (length c.args.takes.now) [])

pub loop-place-preserved : goal.loop-place-preserved
loop-place-preserved c =
    let es = c.args.takes.now in
    taken_more es (replicate (length es) []) c.loop-place.edges c.add_before.new.edges c.behind.result.now c.loop-place.place c.loop-place.invariant c.behind.ensures c.in_ok-add_before.ensures

pub loop-group-init : goal.loop-group-init
loop-group-init c =
    let es = c.args.takes.now in
    let over : length es ≤ c.loop-place.place = omega arith in
    record {
      clear = record { labels = c.in_ok-search.ensures.none ∙ ap (λ n. replicate n None) c.len-count.ensures; marks = c.in_ok-search.ensures.marks };
      edges = before_taken es (replicate (length es) []) c.loop-place.edges c.args.lists.now c.loop-place.place over c.loop-place.invariant;
    }

pub add_group-requires-clause-size : goal.add_group-requires-clause-size
add_group-requires-clause-size c = c.loop-group.invariant.edges.size ∙ length-replicate (length c.args.takes.now) []

pub add_group-requires-clause-clear : goal.add_group-requires-clause-clear
add_group-requires-clause-clear c = c.loop-group.invariant.clear

pub loop-group-preserved : goal.loop-group-preserved
loop-group-preserved c =
    let es = c.args.takes.now in
    record {
      clear = c.in_ok-add_group.ensures.clear;
      edges = before_group es (replicate (length es) []) c.loop-group.edges c.add_group.new.edges c.args.lists.now c.loop-group.group c.loop-group.invariant.edges c.in_ok-add_group.ensures.edges;
    }

pub returns : goal.returns
returns c =
    let es = c.args.takes.now in
    let end : c.loop-group.group ≡ c.args.groups = omega arith in
    subst (λ (n : ℕ). Adds (replicate (length es) []) (BeforeBelow es c.args.lists.now n) c.loop-group.edges) end c.loop-group.invariant.edges
