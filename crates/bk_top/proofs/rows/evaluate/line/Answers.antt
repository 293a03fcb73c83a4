use Rattle.std.proofs.Common.{ap, ◌∙◌}
use Rattle.bk_func.specs.Records.{SigRecord}
use Rattle.bk_top.specs.Outcomes.{seen_outcome, outcome_line}
use Rattle.bk_top.specs.Evaluating.{line_of}
use Rattle.bk_top.proofs.rows.evaluate.line.Goals as goal

pub returns : goal.returns
returns c = λ place named formed.
    let outcome = seen_outcome c.in_ok-outcome.outcome in
    let types = c.deref.ensures.value ∙ ap (λ (g : SigRecord). g.results) c.sig.view_is in
    c.in_ok-outcome_line.ensures
    ∙ ap (λ ts. outcome_line c.args.target ts outcome c.deref-2.result.now) types
    ∙ ap (λ w. outcome_line c.args.target c.args.sig.now.results outcome w) c.deref-2.ensures.value
    ∙ ap (line_of c.args.target c.args.sig.now) (c.in_ok-outcome.ensures place named formed)
