use Rattle.std.proofs.Common.{sym, ◌∙◌, List, ℕ}
use Rattle.std.specs.Str.{bytes_eq}
use denote.Bor.{Bor}
use Rattle.bk_dump.proofs.Sets.{any_map, added_last}
use Rattle.bk_dump.proofs.read.sets.add_name.Goals as goal

pub returns : goal.returns
returns c =
    added_last {A = Bor (List ℕ)} (λ n. n.now) _ c.args.names.now.keys c.insert.new.self.keys c.args.name c.in_ok-insert.ensures.keys
    (sym (any_map {A = Bor (List ℕ)} (λ n. bytes_eq c.args.name.now n) (λ n. n.now) c.args.names.now.keys) ∙ c.requires)
