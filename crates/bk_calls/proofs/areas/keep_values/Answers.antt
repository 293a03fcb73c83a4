use Rattle.std.proofs.Common.{rules}
use Rattle.std.proofs.lemmas.Fn.{filter_same}
use Rattle.bk_calls.specs.Areas.{stays}
use Rattle.bk_calls.proofs.areas.keep_values.Goals as goal

pub returns : goal.returns
returns c = filter_same _ stays _ (λ x b f' k. search rules) _ _ c.retain.ensures.filtered
