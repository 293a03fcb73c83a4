use Rattle.std.proofs.Common.{◌∙◌, ap, position}
use Rattle.std.specs.Prelude.{◌==◌}
use Rattle.std.specs.Option.{unwrap_or}
use Rattle.bk_alloc.specs.Blocks.{PartRecord}
use Rattle.bk_alloc.proofs.Firsts.{position_or}
use Rattle.bk_alloc.proofs.parts.Part.edge_from.Goals as goal

pub returns : goal.returns
returns c =
    let preds = c.args.self.now.plan.preds in
    c.unwrap_or.ensures ∙ (ap (λ o. unwrap_or o c.edge_count.result)
    (c.copied-place.ensures ∙ (c.get.ensures.value ∙ (c.self.invariant.0 c.args.number ∙ ap (λ (p : PartRecord). position (λ n. n == c.args.number) p.plan.preds) c.self.view_is)))
    ∙ (ap (λ k. unwrap_or (position (λ n. n == c.args.number) preds) k) c.edge_count.ensures ∙ position_or (λ n. n == c.args.number) preds))
