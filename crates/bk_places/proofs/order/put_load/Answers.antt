use Rattle.std.proofs.Common.{◌∙◌, sym, ap, subst, ℕ, Option, length}
use Rattle.bk_places.specs.Order.{IsEnd, end_of}
use Rattle.bk_places.proofs.Adding.{load_first, load_next}
use Rattle.bk_places.proofs.order.put_load.Goals as goal

pub returns-then-end-eq0 : goal.returns-then-end-eq0
returns-then-end-eq0 c =
    let xs = c.args.checks.now in
    let same = c.end_of-end.ensures ∙ ap (λ (o : Option ℕ). end_of o (length xs)) c.label.ensures in
    load_first c.args.takes.now c.args.edges.now xs c.args.load c.end_of-end.result (subst (λ (n : ℕ). IsEnd c.args.takes.now xs c.args.load n) (sym same) (c.requires.ends c.args.load)) c.if-end-eq0.true

pub returns : goal.returns
returns c =
    let xs = c.args.checks.now in
    let same = c.end_of-end.ensures ∙ ap (λ (o : Option ℕ). end_of o (length xs)) c.label.ensures in
    load_next c.args.takes.now c.args.edges.now c.add.new.self xs c.args.load c.end_of-end.result
    (subst (λ (n : ℕ). IsEnd c.args.takes.now xs c.args.load n) (sym same) (c.requires.ends c.args.load)) c.if-end-eq0.false c.requires.within c.in_ok-add.ensures
