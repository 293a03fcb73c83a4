use Rattle.std.proofs.Common.{◌≡◌, sym, ◌∙◌}
use Rattle.bk_shuffle.specs.Sequence.{place_of}
use Rattle.bk_shuffle.proofs.Released.{released_with, released_not}
use Rattle.bk_shuffle.proofs.left.release.Goals as goal
use Rattle.bk_shuffle.proofs.left.release.Goals.{else-rest-eq0-via-then-rest-eq0+else-contains_key, else-rest-eq0-via-else-rest-eq0}

pub returns-in_ok-insert-2-clause-free : goal.returns-in_ok-insert-2-clause-free
returns-in_ok-insert-2-clause-free c =
    let apart : ¬ (place_of c.args.edge.0 ≡ place_of c.args.edge.1) = λ e. c.if-from-place_of.false (c.place_of-from.ensures ∙ (e ∙ sym c.place_of.ensures)) in
    released_with c.args.left.now c.args.counts.now c.args.free.now c.insert-then-contains_key.new.self c.args.edge c.place_of-from.result c.count_of.result c.saturating_sub-rest.result c.place_of-from.ensures apart c.requires.left
    c.requires.counts c.requires.free c.count_of.ensures c.saturating_sub-rest.ensures c.if-rest-eq0.true (sym c.if-contains_key.ensures) c.in_ok-insert-2.ensures.updates.0

pub returns-else-rest-eq0-clause-free : goal.returns-else-rest-eq0-clause-free
returns-else-rest-eq0-clause-free c =
    let apart : ¬ (place_of c.args.edge.0 ≡ place_of c.args.edge.1) = λ e. c.if-from-place_of.false (c.place_of-from.ensures ∙ (e ∙ sym c.place_of.ensures)) in
    released_not c.args.left.now c.args.counts.now c.args.free.now c.args.edge c.place_of-from.result c.count_of.result c.saturating_sub-rest.result c.place_of-from.ensures apart c.requires.left c.requires.counts c.requires.free
    c.count_of.ensures c.saturating_sub-rest.ensures
    (elim c.else-rest-eq0.branch [
      | else-rest-eq0-via-then-rest-eq0+else-contains_key w ↦ λ s z. let x = w.if-contains_key.ensures in absurd cc
      | else-rest-eq0-via-else-rest-eq0 w ↦ λ s z. absurd (w.if-rest-eq0.false z)
    ])
