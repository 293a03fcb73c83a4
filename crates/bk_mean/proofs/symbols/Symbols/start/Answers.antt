use Rattle.std.proofs.Common.{rules, ◌≡◌, ℕ, List, ap, ◌∙◌}
use Rattle.std.specs.Prelude.{◌==◌, slice_index}
use Rattle.std.specs.List.{position_or_len}
use Rattle.bk_num.specs.Memory.{data_base}
use Rattle.bk_mean.proofs.Firsts.{start_at}
use Rattle.bk_mean.proofs.symbols.Symbols.start.Goals as goal

pub returns : goal.returns
returns c = λ p h.
    let v = c.var.ensures p h in
    let a : c.at.result ≡ slice_index c.args.self.now.starts.items c.var.result = search rules in
    a ∙ ap (slice_index c.args.self.now.starts.items) v
    ∙ ap (λ (xs : List ℕ). slice_index xs (position_or_len (λ x. x.name == c.args.name) p.vars)) h.starts ∙ start_at c.args.name p.vars data_base
