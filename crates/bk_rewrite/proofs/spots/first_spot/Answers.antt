use Rattle.std.proofs.Common.{ℕ, List, ap, subst, ◌∙◌}
use Rattle.std.specs.Prelude.{MatchOption}
use Rattle.bk_func.specs.Records.{BlockRecord, FuncRecord}
use Rattle.bk_rewrite.specs.Places.{StandsIn}
use Rattle.bk_rewrite.proofs.spots.first_spot.Goals as goal

pub returns : goal.returns
returns c =
    subst (λ (bs : List BlockRecord). MatchOption c.search.result ((b p : ℕ) → ¬ StandsIn bs c.args.id b p) (λ s. StandsIn bs c.args.id s.block s.place))
    (c.deref.ensures.value ∙ ap (λ (f : FuncRecord). f.blocks) c.func.view_is) c.search.ensures
