use Rattle.std.proofs.Common.{sym, ◌∙◌, List, ℕ}
use Rattle.std.specs.Str.{bytes_eq}
use denote.Bor.{Bor}
use Rattle.bk_dump.proofs.Sets.{any_map}
use Rattle.bk_dump.proofs.read.sets.is_declared.Goals as goal

pub returns : goal.returns
returns c = c.contains.ensures ∙ sym (any_map {A = Bor (List ℕ)} (λ n. bytes_eq c.args.name.now n) (λ n. n.now) c.args.names.now.keys)
