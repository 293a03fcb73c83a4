use Rattle.std.proofs.Common.{◌≡◌, subst, ℕ, Some, Option, get_or}
use Rattle.std.proofs.lemmas.Option.{slice_get-get_or}
use Rattle.bk_live.specs.Edges.{AddsEdges}
use Rattle.bk_live.specs.Homes.{place}
use Rattle.bk_live.proofs.Alone.{contains_at, at_contains}
use Rattle.bk_live.proofs.Edging.{edges_none, edges_more, edges_all}
use Rattle.bk_live.proofs.edges.Edges.add_all.Goals as goal

pub loop-number-init : goal.loop-number-init
loop-number-init c = edges_none c.args.numbers.now (λ (k n : ℕ) (e : ℕ × ℕ). (place c.args.places.now n ≡ Some e.0) × (e.1 ≡ c.args.to)) c.args.self.now

pub loop-number-preserved : goal.loop-number-preserved
loop-number-preserved c =
    let ns = c.args.numbers.now in
    let i = c.loop-number.number-index in
    edges_more ns (λ (k n : ℕ) (e : ℕ × ℕ). (place c.args.places.now n ≡ Some e.0) × (e.1 ≡ c.args.to)) c.args.self.now c.loop-number.self c.add.new.self i (get_or ns i 0)
    (slice_get-get_or ns i 0 c.loop-number-test.true) c.loop-number.invariant
    (subst (λ (o : Option ℕ). AddsEdges (λ e. (o ≡ Some e.0) × (e.1 ≡ c.args.to)) c.loop-number.self c.add.new.self) c.find.ensures c.in_ok-add.ensures)

pub returns : goal.returns
returns c =
    edges_all c.args.numbers.now (λ (k n : ℕ) (e : ℕ × ℕ). (place c.args.places.now n ≡ Some e.0) × (e.1 ≡ c.args.to)) _ c.args.self.now c.loop-number.self c.loop-number.number-index
    c.loop-number-test.false
    (λ e. (
      (λ (k, n, at, (is, to)). ((n, contains_at c.args.numbers.now k n at, is), to)),
      (λ ((n, m, is), to). let (k, at) = at_contains c.args.numbers.now n m in (k, n, at, (is, to))),
    )) c.loop-number.invariant
