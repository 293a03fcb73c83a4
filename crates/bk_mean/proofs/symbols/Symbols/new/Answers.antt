use Rattle.std.proofs.Common.{rules, ◌≡◌, ap, ◌∙◌, map}
use Rattle.std.specs.Prelude.{◌==◌, position}
use Rattle.bk_num.specs.Memory.{data_base}
use Rattle.bk_mean.specs.Symbols.{starts_from}
use Rattle.bk_mean.proofs.Firsts.{position-map}
use Rattle.bk_mean.proofs.symbols.Symbols.new.Goals as goal

pub returns : goal.returns
returns c =
    let v : c.deref-2.result.now ≡ map (λ g. g.name) c.args.pkg.now.funcs = search rules in
    let b : c.deref-4.result.now ≡ map (λ x. x.name) c.args.pkg.now.vars = search rules in
    let s : c.in_ok-starts.starts.items ≡ starts_from c.args.pkg.now.vars data_base = search rules in
    record {
      funcs = λ n. c.in_ok-funcs.ensures n ∙ ap (λ xs. position (λ x. x == n) xs) v ∙ position-map (λ g. g.name) n c.args.pkg.now.funcs;
      vars = λ n. c.in_ok-vars.ensures n ∙ ap (λ xs. position (λ x. x == n) xs) b ∙ position-map (λ x. x.name) n c.args.pkg.now.vars;
      starts = s;
    }
