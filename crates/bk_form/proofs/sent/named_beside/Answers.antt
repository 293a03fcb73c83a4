use Rattle.std.proofs.Common.{◌∙◌, sym, ap, subst, ℕ, Option}
use Rattle.std.proofs.lemmas.Bool.{false≢true}
use Rattle.bk_func.specs.Form.Text.{HasValue}
use Rattle.bk_func.specs.Records.{ValueRecord}
use Rattle.bk_places.proofs.Elements.{at_contains, none_says}
use Rattle.bk_form.specs.Names.{measure}
use Rattle.bk_form.specs.Naming.{NamesIf}
use Rattle.bk_form.specs.Places.{NodeRecord, nodes_of}
use Rattle.bk_form.proofs.Copied.{values_named, stands_at}
use Rattle.bk_form.proofs.Sending.{leads_nowhere, leads_there, leads_away}
use Rattle.bk_form.proofs.Used.{nothing_found}
use Rattle.bk_form.proofs.sent.named_beside.Goals as goal

pub named-found-requires-clause-value : goal.named-found-requires-clause-value
named-found-requires-clause-value c =
    let f = c.args.flow.now.scope.func.now in
    let (p, e) = at_contains (nodes_of f) c.args.node.now c.requires.node in
    let (b, has) = stands_at f p c.args.node.now e in
    (b, subst (λ (v : ValueRecord). HasValue f b v) (sym (ap (λ (m : NodeRecord). m.value) c.node.view_is)) has)

pub returns-in_default : goal.returns-in_default
returns-in_default c =
    let f = c.args.flow.now.scope.func.now in
    let named = subst (λ (v : ValueRecord). NamesIf f v c.named-found.result) (ap (λ (m : NodeRecord). m.value) c.node.view_is) c.named-found.ensures in
    leads_nowhere f c.args.node.now (none_says _ _ c.named-found.result (nothing_found c.named-found.result c.in_default.not-Some) named)

pub returns-then-is_home : goal.returns-then-is_home
returns-then-is_home c =
    let f = c.args.flow.now.scope.func.now in
    let named = subst (λ (v : ValueRecord). NamesIf f v c.named-found.result) (ap (λ (m : NodeRecord). m.value) c.node.view_is) c.named-found.ensures in
    let (o, e, home) = c.is_home.ensures.0 c.if-is_home.true in
    leads_there f (values_named (measure c.args.flow.now.scope) f c.requires.flow.named) c.args.node.now c.in-Some.place
    (subst (λ (x : Option ℕ). NamesIf f c.args.node.now.value x) c.in-Some.is named) (o, e, sym (ap (λ (m : NodeRecord). m.home) c.node.view_is) ∙ home)

pub returns-else-is_home : goal.returns-else-is_home
returns-else-is_home c =
    let f = c.args.flow.now.scope.func.now in
    let named = subst (λ (v : ValueRecord). NamesIf f v c.named-found.result) (ap (λ (m : NodeRecord). m.value) c.node.view_is) c.named-found.ensures in
    leads_away f (values_named (measure c.args.flow.now.scope) f c.requires.flow.named) c.args.node.now c.in-Some.place
    (subst (λ (x : Option ℕ). NamesIf f c.args.node.now.value x) c.in-Some.is named)
    (λ (o, e, home). false≢true (sym c.if-is_home.false ∙ c.is_home.ensures.1 (o, e, ap (λ (m : NodeRecord). m.home) c.node.view_is ∙ home)))
