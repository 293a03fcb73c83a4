use Rattle.std.proofs.Common.{◌∙◌, ap, position}
use Rattle.std.specs.Prelude.{◌==◌}
use Rattle.std.specs.Option.{unwrap_or}
use Rattle.bk_alloc.proofs.Firsts.{position_or}
use Rattle.bk_alloc.proofs.homes.Homes.slot_of.Goals as goal

pub returns : goal.returns
returns c =
    c.unwrap_or.ensures ∙ (ap (λ o. unwrap_or o c.count.result) c.find.ensures
    ∙ (ap (λ k. unwrap_or (position (λ v. v == c.args.value) c.args.self.now) k) c.count.ensures ∙ position_or (λ v. v == c.args.value) c.args.self.now))
