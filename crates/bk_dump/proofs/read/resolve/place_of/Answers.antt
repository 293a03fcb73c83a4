use Rattle.std.proofs.Common.{sym, ◌∙◌, ap, Some, List, ℕ}
use Rattle.std.specs.Str.{bytes_eq}
use denote.Bor.{Bor}
use Rattle.bk_dump.proofs.Sets.{position_map}
use Rattle.bk_dump.proofs.read.resolve.place_of.Goals as goal

pub returns-in_ok-number_of-in-Some : goal.returns-in_ok-number_of-in-Some
returns-in_ok-number_of-in-Some c =
    ap Some c.in_ok-number_of-in-Some.ensures
    ∙ c.in-Some.ensures.index
    ∙ sym (position_map {A = Bor (List ℕ)} (λ n. bytes_eq c.args.name.now n) (λ n. n.now) c.args.names.now.keys)

pub returns-in-None : goal.returns-in-None
returns-in-None c =
    c.in-None.ensures.index ∙ sym (position_map {A = Bor (List ℕ)} (λ n. bytes_eq c.args.name.now n) (λ n. n.now) c.args.names.now.keys)
