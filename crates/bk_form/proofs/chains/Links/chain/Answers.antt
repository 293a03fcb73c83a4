use Rattle.std.proofs.Common.{◌∙◌, sym, ap, get_or, None}
use Rattle.std.proofs.lemmas.Bool.{false≢true}
use Rattle.bk_places.proofs.Elements.{lent, none_says, some_says}
use Rattle.bk_form.proofs.Chained.{broken_label, broken_from, broken_line, broken_last, linked}
use Rattle.bk_form.proofs.StateNames.{nothing_is}
use Rattle.bk_form.proofs.chains.Links.chain.Goals as goal

pub returns-in_default-found : goal.returns-in_default-found
returns-in_default-found c =
    broken_label c.args.self.now c.requires.links c.args.places.now c.requires.within c.in-Some.place
    (sym (lent c.args.places.now 0 c.get.result c.get.ensures.lookup) ∙ (sym c.copied.ensures ∙ c.in-Some.is))
    (ap (λ us. get_or us c.in-Some.place None) (sym c.deref.ensures.value) ∙ (sym c.entry-found.ensures ∙ nothing_is c.entry-found.result c.in_default-found.not-Some))

pub returns-then-not-are_from : goal.returns-then-not-are_from
returns-then-not-are_from c =
    broken_from c.args.self.now c.requires.links c.args.places.now c.requires.within c.in-Some.place c.in-Some-found.first
    (sym (lent c.args.places.now 0 c.get.result c.get.ensures.lookup) ∙ (sym c.copied.ensures ∙ c.in-Some.is)) (ap (λ us. get_or us c.in-Some.place None) (sym c.deref.ensures.value) ∙ (sym c.entry-found.ensures ∙ c.in-Some-found.is))
    (λ h. false≢true (sym c.if-not-are_from.true ∙ c.are_from-are_from.ensures.1 h))

pub returns-then-not-is_line : goal.returns-then-not-is_line
returns-then-not-is_line c =
    broken_line c.args.self.now c.requires.links c.args.places.now c.requires.closed c.requires.within c.in-Some.place
    (sym (lent c.args.places.now 0 c.get.result c.get.ensures.lookup) ∙ (sym c.copied.ensures ∙ c.in-Some.is))
    (λ h. false≢true (sym c.if-not-is_line.true ∙ c.is_line-is_line.ensures.1 h))

pub returns-in_default-end : goal.returns-in_default-end
returns-in_default-end c =
    broken_last c.args.self.now c.requires.links c.args.places.now c.requires.closed c.requires.within c.in-Some.place
    (sym (lent c.args.places.now 0 c.get.result c.get.ensures.lookup) ∙ (sym c.copied.ensures ∙ c.in-Some.is))
    (none_says _ _ c.last-end.result (nothing_is c.last-end.result c.in_default-end.not-Some) c.last-end.ensures)

pub returns : goal.returns
returns c =
    let (inside, end) = some_says _ _ c.last-end.result c.in-Some-end.last c.in-Some-end.is c.last-end.ensures in
    linked c.args.self.now c.requires.links c.args.places.now c.requires.closed c.requires.within c.in-Some-found.first c.in-Some-end.last
    (c.are_from-are_from.ensures.0 c.if-not-are_from.false) (c.is_line-is_line.ensures.0 c.if-not-is_line.false) inside end
