use Rattle.std.proofs.Common.{◌∙◌, sym, ap, arith}
use Rattle.std.proofs.lemmas.Bool.{false≢true}
use Rattle.bk_places.proofs.Elements.{lent}
use Rattle.bk_places.proofs.NamesAt.{by_first, by_last}
use Rattle.bk_places.proofs.named.memory_argument.Goals as goal

pub returns-then-names_first : goal.returns-then-names_first
returns-then-names_first c =
    by_first c.args.value.now c.as_slice-args.result.now (c.as_slice-args.ensures ∙ ap (λ v. v.args) c.value.view_is) (c.names_first.ensures.0 c.if-names_first.true)
    c.copied-first.result (c.copied-first.ensures ∙ lent c.as_slice-args.result.now 0 c.get.result c.get.ensures.lookup)

pub returns : goal.returns
returns c =
    by_last c.args.value.now c.as_slice-args.result.now (c.as_slice-args.ensures ∙ ap (λ v. v.args) c.value.view_is)
    (λ first. false≢true (sym c.if-names_first.false ∙ c.names_first.ensures.1 first)) (c.takes_memory.ensures.0 c.if-not-takes_memory.false) _ c.copied-last.result
    (c.copied-last.ensures ∙ lent c.as_slice-args.result.now _ c.get-2.result c.get-2.ensures.lookup) (omega arith)
