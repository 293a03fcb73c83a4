use Rattle.std.proofs.Common.{[], map, is_some, ap, ◌∙◌, sym}
use Rattle.bk_dump.specs.Trees.{HeaderTree}
use Rattle.bk_dump.specs.Drafts.{are_fresh}
use Rattle.bk_dump.proofs.Stages.{opened_none, opened_some}
use Rattle.bk_dump.proofs.read.declare.opened.Goals as goal

pub returns-in_default : goal.returns-in_default
returns-in_default c =
    let same = c.deref.ensures.value ∙ ap (λ (h : HeaderTree). h.parameters) c.line.view_is in
    opened_none c.args.name c.args.line (ap (λ ps. are_fresh [] (map (λ p. p.name) ps)) (sym same) ∙ sym c.in_ok-parameters.ensures.fresh ∙ ap is_some c.in_default.is)

pub returns : goal.returns
returns c =
    let same = c.deref.ensures.value ∙ ap (λ (h : HeaderTree). h.parameters) c.line.view_is in
    let again = c.deref-2.ensures.value ∙ ap (λ (h : HeaderTree). h.parameters) c.line.view_is in
    opened_some c.args.name c.args.line (map (λ n. n.now) c.in-Some.parameters.keys) c.in_ok-args.args.items c.line.inside.results.items c.new.result.items c.new-2.result.keys c.new-3.result.keys
    (ap (λ ps. are_fresh [] (map (λ p. p.name) ps)) (sym same) ∙ sym c.in_ok-parameters.ensures.fresh ∙ ap is_some c.in-Some.is)
    ((rw c.in-Some.is at c.in_ok-parameters.ensures.names) ∙ ap (λ ps. map (λ p. p.name) ps) same)
    (c.in_ok-args.ensures ∙ ap (λ ps. map (λ p. p.ty) ps) again)
    (ap (λ (h : HeaderTree). h.results) c.line.view_is)
    c.new.ensures.items c.new-2.ensures.empty c.new-3.ensures.empty
